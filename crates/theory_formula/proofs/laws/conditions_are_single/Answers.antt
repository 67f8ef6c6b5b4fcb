use Rattle.theory_formula.proofs.ConditionLaws.{condition_single}
use Rattle.theory_formula.proofs.laws.conditions_are_single.Goals as goal

pub returns : goal.returns
returns c = condition_single
