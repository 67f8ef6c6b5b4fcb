use Rattle.theory_signs.specs.Plain.{formula_of}
use Rattle.theory_simplify.proofs.FlatLemmas.{kept_truth}
use Rattle.theory_simplify.proofs.simplification.simplify.Goals as goal

pub returns-clause-truth : goal.returns-clause-truth
returns-clause-truth c = kept_truth (formula_of c.args.formula.now) c.simplified_form.result c.simplified_form.ensures
