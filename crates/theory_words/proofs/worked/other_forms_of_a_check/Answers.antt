use Rattle.std.proofs.Common.{refl}
use Rattle.clap.proofs.OnLiterals.{clap_on_literals}
use Rattle.theory_words.proofs.worked.other_forms_of_a_check.Goals as goal

pub returns-clause-equals : goal.returns-clause-equals
unfolding clap_on_literals
returns-clause-equals c = refl

pub returns-clause-hyphen : goal.returns-clause-hyphen
unfolding clap_on_literals
returns-clause-hyphen c = refl

pub returns-clause-dashes : goal.returns-clause-dashes
unfolding clap_on_literals
returns-clause-dashes c = refl

pub returns-clause-last : goal.returns-clause-last
unfolding clap_on_literals
returns-clause-last c = refl
