use Rattle.std.proofs.Common.{◌≡◌, Some, sym, ◌∙◌, subst}
use Rattle.std.specs.Prelude.{slice_get}
use Rattle.theory_signs.proofs.FormulaLemmas.{constant_case, symbol_case}
use Rattle.theory_signs.proofs.making.constant_sign.Goals as goal

pub returns-then-eq-clause-value : goal.returns-then-eq-clause-value
returns-then-eq-clause-value c =
    let first = subst (λ ts. slice_get ts 0 ≡ Some c.in-Some.t.now) (c.deref.ensures.value ∙ c.terms.ensures.value) (sym c.in-Some.ensures.value) in
    constant_case c.args.poly.now c.in-Some.t.now c.sign_of.result c.terms.ensures.kept first (sym c.eq.ensures ∙ c.if-eq.true) c.sign_of.ensures

pub returns-else-eq-clause-value : goal.returns-else-eq-clause-value
returns-else-eq-clause-value c =
    let first = subst (λ ts. slice_get ts 0 ≡ Some c.in-Some.t.now) (c.deref.ensures.value ∙ c.terms.ensures.value) (sym c.in-Some.ensures.value) in
    symbol_case c.args.poly.now c.in-Some.t.now c.terms.ensures.kept first (sym c.eq.ensures ∙ c.if-eq.false)
