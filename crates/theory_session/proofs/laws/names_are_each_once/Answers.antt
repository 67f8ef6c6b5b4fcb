use Rattle.theory_session.proofs.NameLaws.{once_distinct, once_among, among_each_once, once-push}
use Rattle.theory_session.proofs.laws.names_are_each_once.Goals as goal

pub returns-clause-distinct : goal.returns-clause-distinct
returns-clause-distinct c = once_distinct

pub returns-clause-no_others : goal.returns-clause-no_others
returns-clause-no_others c = once_among

pub returns-clause-all : goal.returns-clause-all
returns-clause-all c = among_each_once

pub returns-clause-last : goal.returns-clause-last
returns-clause-last c = once-push
