use Rattle.theory_meaning.proofs.OrderLaws.{order_trans, order_irreflexive, order_total, order_apart, order_one_way}
use Rattle.theory_meaning.proofs.laws_fractions.order_is_total.Goals as goal

pub returns-clause-transitive : goal.returns-clause-transitive
returns-clause-transitive c = order_trans

pub returns-clause-irreflexive : goal.returns-clause-irreflexive
returns-clause-irreflexive c = order_irreflexive

pub returns-clause-total : goal.returns-clause-total
returns-clause-total c = order_total

pub returns-clause-apart : goal.returns-clause-apart
returns-clause-apart c = order_apart

pub returns-clause-one_way : goal.returns-clause-one_way
returns-clause-one_way c = order_one_way
