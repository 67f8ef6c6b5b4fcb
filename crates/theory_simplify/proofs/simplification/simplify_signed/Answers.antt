use Rattle.theory_signs.specs.Plain.{formula_of}
use Rattle.theory_simplify.proofs.FlatLemmas.{form_by_signs, kept_by_signs}
use Rattle.theory_simplify.proofs.simplification.simplify_signed.Goals as goal

pub returns-clause-written : goal.returns-clause-written
returns-clause-written c =
    form_by_signs (formula_of c.args.formula.now) (formula_of c.in_ok-parts.parts) c.simplified_form.result c.in_ok-parts.ensures.written
    c.simplified_form.ensures

pub returns-clause-truth : goal.returns-clause-truth
returns-clause-truth c =
    kept_by_signs (formula_of c.args.formula.now) c.simplified_form.result c.in_ok-parts.ensures.ordered
    (form_by_signs (formula_of c.args.formula.now) (formula_of c.in_ok-parts.parts) c.simplified_form.result c.in_ok-parts.ensures.written
    c.simplified_form.ensures)
