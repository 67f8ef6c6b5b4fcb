use Rattle.theory_meaning.proofs.OrderLaws.{order_left, order_right, below_left, below_right, same_left, same_right}
use Rattle.theory_meaning.proofs.laws_fractions.order_respects_sameness.Goals as goal

pub returns-clause-left : goal.returns-clause-left
returns-clause-left c = order_left

pub returns-clause-right : goal.returns-clause-right
returns-clause-right c = order_right

pub returns-clause-below_left : goal.returns-clause-below_left
returns-clause-below_left c = below_left

pub returns-clause-below_right : goal.returns-clause-below_right
returns-clause-below_right c = below_right

pub returns-clause-same_left : goal.returns-clause-same_left
returns-clause-same_left c = same_left

pub returns-clause-same_right : goal.returns-clause-same_right
returns-clause-same_right c = same_right
