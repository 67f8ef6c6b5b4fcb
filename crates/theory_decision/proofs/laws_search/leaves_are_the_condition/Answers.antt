use Rattle.theory_decision.proofs.OutcomeTruth.{leaves_are_right, everywhere_is_right}
use Rattle.theory_decision.proofs.laws_search.leaves_are_the_condition.Goals as goal

pub returns-clause-leaves : goal.returns-clause-leaves
returns-clause-leaves c = leaves_are_right

pub returns-clause-everywhere : goal.returns-clause-everywhere
returns-clause-everywhere c = everywhere_is_right
