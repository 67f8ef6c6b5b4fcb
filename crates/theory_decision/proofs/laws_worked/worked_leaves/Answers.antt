use Rattle.theory_decision.proofs.WorkedRuns.{y_is_a_leaf, positive_is_everywhere}
use Rattle.theory_decision.proofs.laws_worked.worked_leaves.Goals as goal

pub returns-clause-leaf : goal.returns-clause-leaf
returns-clause-leaf c = y_is_a_leaf

pub returns-clause-everywhere : goal.returns-clause-everywhere
returns-clause-everywhere c = positive_is_everywhere
