use Rattle.std.proofs.Common.{refl, codes, [], ◌∷◌}
use Rattle.clap.proofs.OnLiterals.{clap_on_literals}
use Rattle.theory_words.proofs.Refusals.{none}
use Rattle.theory_words.proofs.worked.refused_names_of_a_check.Goals as goal

pub returns-clause-none : goal.returns-clause-none
unfolding clap_on_literals
returns-clause-none c = none (codes "check" ∷ codes "a" ∷ codes "--on" ∷ []) refl

pub returns-clause-twice : goal.returns-clause-twice
unfolding clap_on_literals
returns-clause-twice c = none (codes "check" ∷ codes "a" ∷ codes "--on" ∷ codes "x" ∷ codes "--on" ∷ codes "y" ∷ []) refl

pub returns-clause-same : goal.returns-clause-same
unfolding clap_on_literals
returns-clause-same c = none (codes "check" ∷ codes "--on=x" ∷ codes "--on=x" ∷ codes "a" ∷ []) refl

pub returns-clause-two : goal.returns-clause-two
unfolding clap_on_literals
returns-clause-two c = none (codes "check" ∷ codes "a" ∷ codes "--on" ∷ codes "x" ∷ codes "y" ∷ []) refl

pub returns-clause-hyphen : goal.returns-clause-hyphen
unfolding clap_on_literals
returns-clause-hyphen c = none (codes "check" ∷ codes "a" ∷ codes "--on" ∷ codes "-x" ∷ []) refl

pub returns-clause-order : goal.returns-clause-order
unfolding clap_on_literals
returns-clause-order c = none (codes "check" ∷ codes "a" ∷ codes "--on" ∷ codes "--order" ∷ codes "unit" ∷ []) refl

pub returns-clause-short : goal.returns-clause-short
unfolding clap_on_literals
returns-clause-short c = none (codes "check" ∷ codes "a" ∷ codes "-n" ∷ codes "x" ∷ []) refl

pub returns-clause-cut : goal.returns-clause-cut
unfolding clap_on_literals
returns-clause-cut c = none (codes "check" ∷ codes "a" ∷ codes "--o" ∷ codes "x" ∷ []) refl

pub returns-clause-alone : goal.returns-clause-alone
unfolding clap_on_literals
returns-clause-alone c = none (codes "check" ∷ codes "--on" ∷ codes "x" ∷ []) refl
