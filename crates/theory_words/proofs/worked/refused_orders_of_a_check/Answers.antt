use Rattle.std.proofs.Common.{refl, codes, [], ◌∷◌}
use Rattle.clap.proofs.OnLiterals.{clap_on_literals}
use Rattle.theory_words.proofs.Refusals.{none}
use Rattle.theory_words.proofs.worked.refused_orders_of_a_check.Goals as goal

pub returns-clause-other : goal.returns-clause-other
unfolding clap_on_literals
returns-clause-other c = none (codes "check" ∷ codes "a" ∷ codes "--order" ∷ codes "other" ∷ []) refl

pub returns-clause-case : goal.returns-clause-case
unfolding clap_on_literals
returns-clause-case c = none (codes "check" ∷ codes "a" ∷ codes "--order" ∷ codes "Unit" ∷ []) refl

pub returns-clause-none : goal.returns-clause-none
unfolding clap_on_literals
returns-clause-none c = none (codes "check" ∷ codes "a" ∷ codes "--order" ∷ []) refl

pub returns-clause-empty : goal.returns-clause-empty
unfolding clap_on_literals
returns-clause-empty c = none (codes "check" ∷ codes "a" ∷ codes "--order=" ∷ []) refl

pub returns-clause-twice : goal.returns-clause-twice
unfolding clap_on_literals
returns-clause-twice c = none (codes "check" ∷ codes "a" ∷ codes "--order" ∷ codes "unit" ∷ codes "--order" ∷ codes "rare" ∷ []) refl

pub returns-clause-same : goal.returns-clause-same
unfolding clap_on_literals
returns-clause-same c = none (codes "check" ∷ codes "--order=unit" ∷ codes "--order=unit" ∷ codes "a" ∷ []) refl

pub returns-clause-short : goal.returns-clause-short
unfolding clap_on_literals
returns-clause-short c = none (codes "check" ∷ codes "a" ∷ codes "-o" ∷ codes "unit" ∷ []) refl

pub returns-clause-cut : goal.returns-clause-cut
unfolding clap_on_literals
returns-clause-cut c = none (codes "check" ∷ codes "a" ∷ codes "--ord" ∷ codes "unit" ∷ []) refl

pub returns-clause-alone : goal.returns-clause-alone
unfolding clap_on_literals
returns-clause-alone c = none (codes "check" ∷ codes "--order" ∷ codes "unit" ∷ []) refl
