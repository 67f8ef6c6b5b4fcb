use Rattle.std.proofs.Common.{List, IfOk, false, not, map, drop, ◌+◌, sym, ◌∙◌, subst, arith}
use Rattle.std.proofs.lemmas.List.{at_drop_all}
use Rattle.theory_syntax.specs.declared.claim.Claim.{Claim}
use Rattle.theory_lowering.specs.Lowered.{IsFormulaOf}
use Rattle.theory_lowering.specs.LoweringLimits.{IsWideClaim}
use Rattle.theory_poly.specs.Answers.{WideWhere}
use Rattle.theory_syntax.specs.Plain.{expr_of, claim_of, claims_of}
use Rattle.theory_lower.specs.Lowering.{form_of}
use Rattle.theory_signs.specs.Plain.{formula_of}
use Rattle.theory_lower.proofs.LoweringLemmas.{tree-Atom, atom_written, iff_written, drop_step, reached_more, reached_end, grown_by_one}
use Rattle.theory_lower.proofs.TreeLemmas.{tree-Iff}
use Rattle.theory_lower.proofs.lowering.+lowered.Goals as goal

pub lowered-returns-in-Atom-clause-written : goal.lowered-returns-in-Atom-clause-written
lowered-returns-in-Atom-clause-written t c =
    let ns = c.args.names.now in
    subst (λ d. IfOk c.comparison.result (λ F. IsFormulaOf ns (form_of c.args.stands d) (formula_of F)))
    (tree-Atom c.args.claim.now c.in-Atom.u c.in-Atom.rel c.in-Atom.v c.in-Atom.is)
    (atom_written ns c.args.stands (expr_of c.in-Atom.u) (expr_of c.in-Atom.v) c.in-Atom.rel c.relation.result c.comparison.result c.relation.ensures
    c.comparison.ensures.written)

pub lowered-returns-in-Atom-clause-wide : goal.lowered-returns-in-Atom-clause-wide
lowered-returns-in-Atom-clause-wide t c =
    subst (λ d. WideWhere (IsWideClaim c.args.names.now d) c.comparison.result)
    (tree-Atom c.args.claim.now c.in-Atom.u c.in-Atom.rel c.in-Atom.v c.in-Atom.is) c.comparison.ensures.wide

pub lowered-returns-in-Iff-clause-written : goal.lowered-returns-in-Iff-clause-written
lowered-returns-in-Iff-clause-written t c =
    let ns = c.args.names.now in
    let a = c.deref-in-Iff.result.now in
    let b = c.deref-in-Iff-2.result.now in
    subst (λ d. IfOk c.joined-in-Iff-3.result (λ F. IsFormulaOf ns (form_of c.args.stands d) (formula_of F)))
    (tree-Iff c.args.claim.now c.in-Iff.a c.in-Iff.b a b c.in-Iff.is c.deref-in-Iff.ensures c.deref-in-Iff-2.ensures)
    (iff_written ns c.args.stands (claim_of a) (claim_of b) c.lowered-in-Iff.result c.lowered-in-Iff-2.result c.lowered-in-Iff-3.result
    c.lowered-in-Iff-4.result c.joined-in-Iff.result c.joined-in-Iff-2.result c.joined-in-Iff-3.result
    c.lowered-in-Iff.ensures.written c.lowered-in-Iff-2.ensures.written c.joined-in-Iff.ensures
    (subst (λ z. IfOk c.lowered-in-Iff-3.result (λ F. IsFormulaOf ns (form_of false (claim_of z)) (formula_of F)))
    (c.deref-in-Iff-3.ensures ∙ sym c.deref-in-Iff.ensures) c.lowered-in-Iff-3.ensures.written)
    (subst (λ z. IfOk c.lowered-in-Iff-4.result (λ F. IsFormulaOf ns (form_of (not c.args.stands) (claim_of z)) (formula_of F)))
    (c.deref-in-Iff-4.ensures ∙ sym c.deref-in-Iff-2.ensures) c.lowered-in-Iff-4.ensures.written)
    c.joined-in-Iff-2.ensures c.joined-in-Iff-3.ensures)

pub all_lowered-loop-claim-preserved : goal.all_lowered-loop-claim-preserved
all_lowered-loop-claim-preserved t c =
    let i = c.loop-claim.claim-index in
    let all = c.args.claims.now in
    let old = c.loop-claim.all.items in
    let new = c.keep.new.members.items in
    reached_more c.args.names.now c.args.stands (claims_of all) (claims_of (drop i all)) (claims_of (drop (i + 1) all)) (map formula_of old) (map
    formula_of new)
    _ (formula_of c.in-Ok.formula) (drop_step all i _ c.loop-claim-test.true c.claim-item.is)
    (λ Gs. grown_by_one old new c.in-Ok.formula Gs c.in_ok-keep-in-Ok.ensures) c.loop-claim.invariant c.in-Ok.ensures.written c.in-Ok.ensures.wide

pub all_lowered-returns-clause-written : goal.all_lowered-returns-clause-written
all_lowered-returns-clause-written t c =
    let i = c.loop-claim.claim-index in
    let all = c.args.claims.now in
    reached_end c.args.names.now c.args.stands (claims_of all) (claims_of (drop i all)) (map formula_of c.loop-claim.all.items)
    (at_drop_all (λ (cs : List Claim). claims_of cs) all i (omega (arith, c.loop-claim-test.false))) c.loop-claim.invariant
