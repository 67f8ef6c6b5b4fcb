use Rattle.theory_session.proofs.NameLaws.{none_unlisted, first_is}
use Rattle.theory_session.proofs.laws.first_unlisted_names_are_found.Goals as goal

pub returns-clause-none : goal.returns-clause-none
returns-clause-none c = none_unlisted

pub returns-clause-found : goal.returns-clause-found
returns-clause-found c = first_is
