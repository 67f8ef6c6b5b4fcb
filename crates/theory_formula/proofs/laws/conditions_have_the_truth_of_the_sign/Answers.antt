use Rattle.theory_formula.proofs.ConditionLaws.{condition_truth}
use Rattle.theory_formula.proofs.laws.conditions_have_the_truth_of_the_sign.Goals as goal

pub returns : goal.returns
returns c = condition_truth
