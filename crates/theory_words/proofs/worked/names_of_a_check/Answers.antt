use Rattle.std.proofs.Common.{refl}
use Rattle.clap.proofs.OnLiterals.{clap_on_literals}
use Rattle.theory_words.proofs.worked.names_of_a_check.Goals as goal

pub returns-clause-one : goal.returns-clause-one
unfolding clap_on_literals
returns-clause-one c = refl

pub returns-clause-several : goal.returns-clause-several
unfolding clap_on_literals
returns-clause-several c = refl

pub returns-clause-equals : goal.returns-clause-equals
unfolding clap_on_literals
returns-clause-equals c = refl

pub returns-clause-empty : goal.returns-clause-empty
unfolding clap_on_literals
returns-clause-empty c = refl

pub returns-clause-nothing : goal.returns-clause-nothing
unfolding clap_on_literals
returns-clause-nothing c = refl

pub returns-clause-between : goal.returns-clause-between
unfolding clap_on_literals
returns-clause-between c = refl

pub returns-clause-around : goal.returns-clause-around
unfolding clap_on_literals
returns-clause-around c = refl
