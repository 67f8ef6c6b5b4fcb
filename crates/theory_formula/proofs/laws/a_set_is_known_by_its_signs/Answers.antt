use Rattle.theory_formula.proofs.FormulaLaws.{known_by_signs}
use Rattle.theory_formula.proofs.laws.a_set_is_known_by_its_signs.Goals as goal

pub returns : goal.returns
returns c = known_by_signs
