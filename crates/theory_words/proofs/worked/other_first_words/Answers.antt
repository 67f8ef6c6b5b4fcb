use Rattle.std.proofs.Common.{refl, codes, [], ◌∷◌}
use Rattle.clap.proofs.OnLiterals.{clap_on_literals}
use Rattle.theory_words.proofs.Refusals.{none}
use Rattle.theory_words.proofs.worked.other_first_words.Goals as goal

pub returns-clause-none : goal.returns-clause-none
unfolding clap_on_literals
returns-clause-none c = none [] refl

pub returns-clause-case : goal.returns-clause-case
unfolding clap_on_literals
returns-clause-case c = none (codes "Check" ∷ codes "a" ∷ []) refl

pub returns-clause-option : goal.returns-clause-option
unfolding clap_on_literals
returns-clause-option c = none (codes "--order" ∷ codes "unit" ∷ codes "check" ∷ codes "a" ∷ []) refl

pub returns-clause-help : goal.returns-clause-help
unfolding clap_on_literals
returns-clause-help c = none (codes "help" ∷ []) refl
