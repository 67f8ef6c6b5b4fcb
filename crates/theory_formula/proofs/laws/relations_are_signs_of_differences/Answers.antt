use Rattle.theory_formula.proofs.FormulaLaws.{sign_of_difference}
use Rattle.theory_formula.proofs.laws.relations_are_signs_of_differences.Goals as goal

pub returns : goal.returns
returns c = sign_of_difference
