use Rattle.theory_formula.proofs.FormulaLaws.{kept}
use Rattle.theory_formula.proofs.laws.true_atoms_keep_a_formula_true.Goals as goal

pub returns : goal.returns
returns c = kept
