use Rattle.std.proofs.Common.{ap, ◌∙◌}
use Rattle.theory_formula.specs.SignCondition.{decided}
use Rattle.theory_signs.specs.Plain.{formula_of}
use Rattle.theory_signs.proofs.FormulaLemmas.{answers_canonical, decision_truth}
use Rattle.theory_signs.proofs.making.make_atom.Goals as goal

pub returns-in-Some-clause-truth : goal.returns-in-Some-clause-truth
returns-in-Some-clause-truth c p =
    decision_truth c.args.poly.now c.args.signs c.in-Some.sign (formula_of c.decision.result) p c.in-Some.ensures.ordered c.in-Some.ensures.value
    (c.decision.ensures ∙ ap decided c.has.ensures)

pub returns-in-None-clause-truth : goal.returns-in-None-clause-truth
returns-in-None-clause-truth c =
    answers_canonical c.args.poly.now c.args.signs c.canonical_atom.result c.in-None.ensures.ordered c.canonical_atom.ensures
