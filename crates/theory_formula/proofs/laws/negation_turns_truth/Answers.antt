use Rattle.theory_formula.proofs.FormulaLaws.{negation_turns}
use Rattle.theory_formula.proofs.laws.negation_turns_truth.Goals as goal

pub returns : goal.returns
returns c = negation_turns
