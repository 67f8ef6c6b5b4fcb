use Rattle.std.proofs.Common.{map, ⊎_elim}
use Rattle.theory_formula.specs.Formula.{formulas_from}
use Rattle.theory_signs.specs.Plain.{formula_of}
use Rattle.theory_witness.proofs.RootLemmas.{next_added, last_added, roots_of-And, roots_of-Or}
use Rattle.theory_witness.proofs.roots.+roots.Goals as goal

pub add_all_roots-loop-formula-preserved : goal.add_all_roots-loop-formula-preserved
add_all_roots-loop-formula-preserved t c =
    next_added c.args.x (formulas_from (map formula_of c.args.formulas.now)) c.args.formulas.now c.loop-formula.formula-index c.formula-item.result _ _ _
    c.loop-formula-test.true c.formula-item.is c.loop-formula.invariant c.in_ok-add_roots.ensures

pub add_all_roots-returns : goal.add_all_roots-returns
add_all_roots-returns t c =
    last_added c.args.x (formulas_from (map formula_of c.args.formulas.now)) c.args.formulas.now c.loop-formula.formula-index _ _
    c.loop-formula-test.false c.loop-formula.invariant

pub add_roots-returns-in-And : goal.add_roots-returns-in-And
add_roots-returns-in-And t c =
    let x = c.args.x in
    let old = c.args.roots.now.items in
    let new = c.add_all_roots.new.roots.items in
    ⊎_elim (λ is. roots_of-And x c.args.formula.now c.in-And.members c.deref.result.now c.add_all_roots.result old new is c.deref.ensures.value
    c.add_all_roots.ensures)
    (λ is. roots_of-Or x c.args.formula.now c.in-And.members c.deref.result.now c.add_all_roots.result old new is c.deref.ensures.value
    c.add_all_roots.ensures) c.in-And.is
