use Rattle.theory_signs.specs.Plain.{formula_of}
use Rattle.theory_signs.proofs.FormulaLemmas.{answers_negated}
use Rattle.theory_signs.proofs.negation.negate.Goals as goal

pub returns-clause-truth : goal.returns-clause-truth
returns-clause-truth c = answers_negated (formula_of c.args.formula.now) c.opposite.result c.opposite.ensures
