use Rattle.std.proofs.Common.{refl, codes, [], ◌∷◌}
use Rattle.clap.proofs.OnLiterals.{clap_on_literals}
use Rattle.theory_words.proofs.Refusals.{none}
use Rattle.theory_words.proofs.worked.refused_derivations.Goals as goal

pub returns-clause-none : goal.returns-clause-none
unfolding clap_on_literals
returns-clause-none c = none (codes "derive" ∷ []) refl

pub returns-clause-two : goal.returns-clause-two
unfolding clap_on_literals
returns-clause-two c = none (codes "derive" ∷ codes "a" ∷ codes "b" ∷ []) refl

pub returns-clause-order : goal.returns-clause-order
unfolding clap_on_literals
returns-clause-order c = none (codes "derive" ∷ codes "a" ∷ codes "--order" ∷ codes "unit" ∷ []) refl

pub returns-clause-on : goal.returns-clause-on
unfolding clap_on_literals
returns-clause-on c = none (codes "derive" ∷ codes "a" ∷ codes "--on" ∷ codes "x" ∷ []) refl

pub returns-clause-help : goal.returns-clause-help
unfolding clap_on_literals
returns-clause-help c = none (codes "derive" ∷ codes "--help" ∷ []) refl
