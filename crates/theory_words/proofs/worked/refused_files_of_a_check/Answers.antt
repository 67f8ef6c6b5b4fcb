use Rattle.std.proofs.Common.{refl, codes, [], ◌∷◌}
use Rattle.clap.proofs.OnLiterals.{clap_on_literals}
use Rattle.theory_words.proofs.Refusals.{none}
use Rattle.theory_words.proofs.worked.refused_files_of_a_check.Goals as goal

pub returns-clause-none : goal.returns-clause-none
unfolding clap_on_literals
returns-clause-none c = none (codes "check" ∷ []) refl

pub returns-clause-two : goal.returns-clause-two
unfolding clap_on_literals
returns-clause-two c = none (codes "check" ∷ codes "a" ∷ codes "b" ∷ []) refl

pub returns-clause-hyphen : goal.returns-clause-hyphen
unfolding clap_on_literals
returns-clause-hyphen c = none (codes "check" ∷ codes "-a" ∷ []) refl

pub returns-clause-dashes : goal.returns-clause-dashes
unfolding clap_on_literals
returns-clause-dashes c = none (codes "check" ∷ codes "--" ∷ []) refl

pub returns-clause-help : goal.returns-clause-help
unfolding clap_on_literals
returns-clause-help c = none (codes "check" ∷ codes "--help" ∷ []) refl

pub returns-clause-version : goal.returns-clause-version
unfolding clap_on_literals
returns-clause-version c = none (codes "check" ∷ codes "--version" ∷ codes "a" ∷ []) refl
