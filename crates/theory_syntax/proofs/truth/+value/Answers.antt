use Rattle.std.proofs.Common.{◌≡◌, sym, ap, ◌∙◌, subst, Some}
use Rattle.theory_meaning.specs.Fraction.{Fraction, sum_of, difference_of, product_of, opposite_of, power_of, quotient_of}
use Rattle.theory_meaning.specs.Tree as plain
use Rattle.theory_meaning.specs.Truth.{value_of}
use Rattle.theory_meaning.specs.Wide.{HasWideValue}
use Rattle.theory_meaning.proofs.ValueLaws.{sum_respects, difference_respects, product_respects, opposite_respects, power_respects, quotient_respects}
use Rattle.theory_points.specs.Parts.{IsKept}
use Rattle.theory_syntax.specs.Plain.{expr_of, expr_step}
use Rattle.theory_syntax.specs.Valued.{IsValued}
use Rattle.theory_syntax.proofs.TruthLemmas.{valued_of_two, valued_of_one, split_found, same_of_equal, told_of}
use Rattle.theory_syntax.specs.declared.expr.Expr.TheOpen.{Expr-F}
use Rattle.theory_syntax.specs.declared.expr.Expr.TheFolds.{fold-roll-Expr}
use Rattle.theory_syntax.specs.declared.expr.Expr.TheVariants.{rolls-Sum, rolls-Diff, rolls-Neg, rolls-Prod, rolls-Pow, rolls-Quot}
use Rattle.theory_syntax.proofs.truth.+value.Goals as goal

pub returns-in_ok-value-in-Sum-2 : goal.returns-in_ok-value-in-Sum-2
returns-in_ok-value-in-Sum-2 t c =
    let p = c.args.point.now in
    let u = c.in-Sum.u in
    let v = c.in-Sum.v in
    let layer : expr_of c.args.expr.now ≡ plain.sum (expr_of u.value) (expr_of v.value) =
    ap expr_of (c.in-Sum.is ∙ sym (rolls-Sum u v)) ∙ fold-roll-Expr plain.Expr expr_step (Expr-F.Sum u v) in
    subst (λ e. IsValued (HasWideValue e p) (value_of e p) c.add.result) (sym layer)
    (valued_of_two sum_of sum_respects (HasWideValue (expr_of u.value) p) (HasWideValue (expr_of v.value) p) (value_of (expr_of u.value) p)
    (value_of (expr_of v.value) p)
    c.in_ok-value-in-Sum.field-0 c.in_ok-value-in-Sum-2.field-0 c.add.result
    (told_of p c.in_ok-value-in-Sum.field-0 _ _ c.deref.ensures c.in_ok-value-in-Sum.ensures)
    (told_of p c.in_ok-value-in-Sum-2.field-0 _ _ c.deref-in-Sum.ensures c.in_ok-value-in-Sum-2.ensures) (c.add.ensures.value, c.add.ensures.kept))

pub returns-in_ok-value-in-Diff-2 : goal.returns-in_ok-value-in-Diff-2
returns-in_ok-value-in-Diff-2 t c =
    let p = c.args.point.now in
    let u = c.in-Diff.u in
    let v = c.in-Diff.v in
    let layer : expr_of c.args.expr.now ≡ plain.difference (expr_of u.value) (expr_of v.value) =
    ap expr_of (c.in-Diff.is ∙ sym (rolls-Diff u v)) ∙ fold-roll-Expr plain.Expr expr_step (Expr-F.Diff u v) in
    subst (λ e. IsValued (HasWideValue e p) (value_of e p) c.sub.result) (sym layer)
    (valued_of_two difference_of difference_respects (HasWideValue (expr_of u.value) p) (HasWideValue (expr_of v.value) p) (value_of (expr_of u.value) p)
    (value_of (expr_of v.value) p)
    c.in_ok-value-in-Diff.field-0 c.in_ok-value-in-Diff-2.field-0 c.sub.result
    (told_of p c.in_ok-value-in-Diff.field-0 _ _ c.deref-in-Diff.ensures c.in_ok-value-in-Diff.ensures)
    (told_of p c.in_ok-value-in-Diff-2.field-0 _ _ c.deref-in-Diff-2.ensures c.in_ok-value-in-Diff-2.ensures) (c.sub.ensures.value, c.sub.ensures.kept))

pub returns-in_ok-value-in-Prod-2 : goal.returns-in_ok-value-in-Prod-2
returns-in_ok-value-in-Prod-2 t c =
    let p = c.args.point.now in
    let u = c.in-Prod.u in
    let v = c.in-Prod.v in
    let layer : expr_of c.args.expr.now ≡ plain.product (expr_of u.value) (expr_of v.value) =
    ap expr_of (c.in-Prod.is ∙ sym (rolls-Prod u v)) ∙ fold-roll-Expr plain.Expr expr_step (Expr-F.Prod u v) in
    subst (λ e. IsValued (HasWideValue e p) (value_of e p) c.mul.result) (sym layer)
    (valued_of_two product_of product_respects (HasWideValue (expr_of u.value) p) (HasWideValue (expr_of v.value) p) (value_of (expr_of u.value) p)
    (value_of (expr_of v.value) p)
    c.in_ok-value-in-Prod.field-0 c.in_ok-value-in-Prod-2.field-0 c.mul.result
    (told_of p c.in_ok-value-in-Prod.field-0 _ _ c.deref-in-Prod.ensures c.in_ok-value-in-Prod.ensures)
    (told_of p c.in_ok-value-in-Prod-2.field-0 _ _ c.deref-in-Prod-2.ensures c.in_ok-value-in-Prod-2.ensures) (c.mul.ensures.value, c.mul.ensures.kept))

pub returns-in_ok-value-in-Neg : goal.returns-in_ok-value-in-Neg
returns-in_ok-value-in-Neg t c =
    let p = c.args.point.now in
    let u = c.in-Neg.u in
    let f = c.in_ok-value-in-Neg.field-0 in
    let found = c.kept-in-Neg.result in
    let layer : expr_of c.args.expr.now ≡ plain.opposite (expr_of u.value) =
    ap expr_of (c.in-Neg.is ∙ sym (rolls-Neg u)) ∙ fold-roll-Expr plain.Expr expr_step (Expr-F.Neg u) in
    let is = c.kept-in-Neg.ensures.value ∙ c.neg.ensures in
    subst (λ e. IsValued (HasWideValue e p) (value_of e p) (Some found)) (sym layer)
    (valued_of_one opposite_of opposite_respects (HasWideValue (expr_of u.value) p) (value_of (expr_of u.value) p) f (Some found)
    (told_of p f _ _ c.deref-in-Neg.ensures c.in_ok-value-in-Neg.ensures)
    (same_of_equal found (opposite_of f) is, subst (λ (q : Fraction). IsKept q) (sym c.kept-in-Neg.ensures.value) c.kept-in-Neg.ensures.kept))

pub returns-in_ok-value-in-Pow : goal.returns-in_ok-value-in-Pow
returns-in_ok-value-in-Pow t c =
    let p = c.args.point.now in
    let u = c.in-Pow.u in
    let k = c.in-Pow.k in
    let f = c.in_ok-value-in-Pow.field-0 in
    let layer : expr_of c.args.expr.now ≡ plain.power (expr_of u.value) k =
    ap expr_of (c.in-Pow.is ∙ sym (rolls-Pow u k)) ∙ fold-roll-Expr plain.Expr expr_step (Expr-F.Pow u k) in
    subst (λ e. IsValued (HasWideValue e p) (value_of e p) c.power.result) (sym layer)
    (valued_of_one (λ q. power_of q k) (λ q r same. power_respects q r k same) (HasWideValue (expr_of u.value) p)
    (value_of (expr_of u.value) p) f c.power.result
    (told_of p f _ _ c.deref-in-Pow.ensures c.in_ok-value-in-Pow.ensures) (split_found (power_of f k) c.power.result c.power.ensures))

pub returns-in_ok-value-in-Quot-2 : goal.returns-in_ok-value-in-Quot-2
returns-in_ok-value-in-Quot-2 t c =
    let p = c.args.point.now in
    let u = c.in-Quot.u in
    let v = c.in-Quot.v in
    let f = c.in_ok-value-in-Quot.field-0 in
    let g = c.in_ok-value-in-Quot-2.field-0 in
    let layer : expr_of c.args.expr.now ≡ plain.quotient (expr_of u.value) (expr_of v.value) =
    ap expr_of (c.in-Quot.is ∙ sym (rolls-Quot u v)) ∙ fold-roll-Expr plain.Expr expr_step (Expr-F.Quot u v) in
    subst (λ e. IsValued (HasWideValue e p) (value_of e p) c.quotient.result) (sym layer)
    (valued_of_two quotient_of quotient_respects (HasWideValue (expr_of u.value) p) (HasWideValue (expr_of v.value) p) (value_of (expr_of u.value) p)
    (value_of (expr_of v.value) p) f g c.quotient.result (told_of p f _ _ c.deref-in-Quot.ensures c.in_ok-value-in-Quot.ensures)
    (told_of p g _ _ c.deref-in-Quot-2.ensures c.in_ok-value-in-Quot-2.ensures) (split_found (quotient_of f g) c.quotient.result c.quotient.ensures))
