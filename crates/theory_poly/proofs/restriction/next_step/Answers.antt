use Rattle.std.proofs.Common.{◌≡◌, inr, ⊎_elim, pos, ◌*ℤ◌, ◌≤ℤ◌, ◌≤◌, ◌<◌, ◌^◌, w64, unsigned_abs, sym, ap₂, ◌∙◌, subst, arith, Ok, Err}
use Rattle.std.specs.Int.{w128}
use Rattle.std.proofs.lemmas.Int.{ints}
use mir.Val.{to_z, of_z}
use Rattle.theory_meaning.specs.Fraction.{den}
use Rattle.theory_meaning.specs.Limits.{bound}
use Rattle.theory_meaning.proofs.WholeLaws.{le_from_test}
use Rattle.theory_polynomial.specs.Polynomial.{scaled, sum_of, IsPolynomialOf, IsBeyond}
use Rattle.theory_poly.specs.Kept.{PassesInStep}
use Rattle.theory_poly.proofs.AnswerLaws.{answers_wide}
use Rattle.theory_poly.proofs.StepLaws.{gathered_step, not_below_zero, limit_weaker}
use Rattle.theory_poly.proofs.restriction.next_step.Goals as goal

-- the power that was raised
raised_is : (c : goal.After-drop-all) → c.product-raised.result ≡ c.args.power *ℤ pos (den c.args.value.now)
raised_is c =
    let power : to_z w64 (of_z w64 c.args.power) ≡ c.args.power = omega (arith, ints, c.ranges.power) in
    let below : to_z w64 (of_z w64 c.den.result) ≡ pos (den c.args.value.now) = omega (arith, ints, c.den.ensures.value, c.den.ensures.kept.within.bottom) in
    c.product-raised.ensures.value ∙ ap₂ ◌*ℤ◌ power below

-- it fits 64 bits
raised_fits : (c : goal.After-drop-all) → unsigned_abs c.product-raised.result ≤ bound
raised_fits c =
    let wide : to_z w128 (of_z w128 c.product-raised.result) ≡ c.product-raised.result = omega (arith, ints, c.product-raised.ensures.small) in
    let under : c.product-raised.result ≤ℤ pos 288230376151711744 =
    subst (λ z. z ≤ℤ pos 288230376151711744) wide (le_from_test (pos 288230376151711744) (to_z w128 (of_z w128 c.product-raised.result))
    c.if-raised-gt-W.false) in
    let low : pos 0 ≤ℤ c.product-raised.result = subst (λ z. pos 0 ≤ℤ z) (sym (raised_is c))
    (not_below_zero c.args.power (den c.args.value.now) c.requires.low) in
    omega (arith, ints, under, low)

raised_cast : (c : goal.After-drop-all) → to_z w64 (of_z w64 (to_z w128 (of_z w128 c.product-raised.result))) ≡ c.product-raised.result
raised_cast c = let fits = raised_fits c in omega (arith, ints, fits)

-- what was gathered
gathered : (c : goal.After-drop-all)
    → IsPolynomialOf (sum_of (scaled c.args.value.now.num c.args.sum.now) (scaled (c.args.power *ℤ pos (den c.args.value.now)) c.args.next.now))
    c.in_ok-all.all.items
gathered c =
    let num : to_z w64 (of_z w64 c.num.result) ≡ c.args.value.now.num = omega (arith, ints, c.num.ensures.value, c.num.ensures.kept.within.top) in
    gathered_step c.args.value.now c.args.sum.now c.args.power c.args.next.now (to_z w64 (of_z w64 c.num.result))
    (to_z w64 (of_z w64 (to_z w128 (of_z w128 c.product-raised.result)))) c.as_slice.result.now c.as_slice-2.result.now c.in_ok-all.all.items (2 ^ 117)
    num (raised_cast c ∙ raised_is c) c.as_slice.ensures.value c.as_slice-2.ensures.value c.in_ok-all.ensures

-- the power that was raised, where the sum is refused
raised_is_refused : (c : goal.After-drop-all-2) → c.product-raised.result ≡ c.args.power *ℤ pos (den c.args.value.now)
raised_is_refused c =
    let power : to_z w64 (of_z w64 c.args.power) ≡ c.args.power = omega (arith, ints, c.ranges.power) in
    let below : to_z w64 (of_z w64 c.den.result) ≡ pos (den c.args.value.now) = omega (arith, ints, c.den.ensures.value, c.den.ensures.kept.within.bottom) in
    c.product-raised.ensures.value ∙ ap₂ ◌*ℤ◌ power below

-- it fits 64 bits, where the sum is refused
raised_fits_refused : (c : goal.After-drop-all-2) → unsigned_abs c.product-raised.result ≤ bound
raised_fits_refused c =
    let wide : to_z w128 (of_z w128 c.product-raised.result) ≡ c.product-raised.result = omega (arith, ints, c.product-raised.ensures.small) in
    let under : c.product-raised.result ≤ℤ pos 288230376151711744 =
    subst (λ z. z ≤ℤ pos 288230376151711744) wide (le_from_test (pos 288230376151711744) (to_z w128 (of_z w128 c.product-raised.result))
    c.if-raised-gt-W.false) in
    let low : pos 0 ≤ℤ c.product-raised.result = subst (λ z. pos 0 ≤ℤ z) (sym (raised_is_refused c))
    (not_below_zero c.args.power (den c.args.value.now) c.requires.low) in
    omega (arith, ints, under, low)

raised_cast_refused : (c : goal.After-drop-all-2) → to_z w64 (of_z w64 (to_z w128 (of_z w128 c.product-raised.result))) ≡ c.product-raised.result
raised_cast_refused c = let fits = raised_fits_refused c in omega (arith, ints, fits)

-- what was gathered, where the sum is refused
gathered_refused : (c : goal.After-drop-all-2)
    → IsPolynomialOf (sum_of (scaled c.args.value.now.num c.args.sum.now) (scaled (c.args.power *ℤ pos (den c.args.value.now)) c.args.next.now))
    c.in_ok-all.all.items
gathered_refused c =
    let num : to_z w64 (of_z w64 c.num.result) ≡ c.args.value.now.num = omega (arith, ints, c.num.ensures.value, c.num.ensures.kept.within.top) in
    gathered_step c.args.value.now c.args.sum.now c.args.power c.args.next.now (to_z w64 (of_z w64 c.num.result))
    (to_z w64 (of_z w64 (to_z w128 (of_z w128 c.product-raised.result)))) c.as_slice.result.now c.as_slice-2.result.now c.in_ok-all.all.items (2 ^ 117)
    num (raised_cast_refused c ∙ raised_is_refused c) c.as_slice.ensures.value c.as_slice-2.ensures.value c.in_ok-all.ensures

pub returns-in-Ok-clause-value : goal.returns-in-Ok-clause-value
returns-in-Ok-clause-value c = record {
  polynomial = subst (IsPolynomialOf (sum_of (scaled c.args.value.now.num c.args.sum.now)
      (scaled (c.args.power *ℤ pos (den c.args.value.now)) c.args.next.now)))
      (sym (c.in-Ok.ensures.value ∙ c.deref.ensures.value)) (gathered c);
  power_is = raised_cast c ∙ raised_is c;
  small = subst (λ z. unsigned_abs z ≤ bound) (sym (raised_cast c)) (raised_fits c);
}

pub returns-in-Ok-clause-wide : goal.returns-in-Ok-clause-wide
returns-in-Ok-clause-wide c passes =
    let fits = subst (λ z. unsigned_abs z ≤ bound) (raised_is c) (raised_fits c) in
    ⊎_elim (λ (over : bound < unsigned_abs (c.args.power *ℤ pos (den c.args.value.now))). absurd (omega (arith, fits, over)))
    (λ beyond. answers_wide (sum_of (scaled c.args.value.now.num c.args.sum.now) (scaled (c.args.power *ℤ pos (den c.args.value.now)) c.args.next.now))
    c.in_ok-all.all.items c.deref.result.now (Ok c.in-Ok.found) (gathered c) c.deref.ensures.value c.in-Ok.ensures.wide beyond) passes

pub returns-clause-wide : goal.returns-clause-wide
returns-clause-wide c =
    let terms = sum_of (scaled c.args.value.now.num c.args.sum.now) (scaled (c.args.power *ℤ pos (den c.args.value.now)) c.args.next.now) in
    limit_weaker (IsBeyond terms) (PassesInStep c.args.value.now c.args.sum.now c.args.power c.args.next.now) c.in-Err.limit inr
    (answers_wide terms c.in_ok-all.all.items c.deref.result.now (Err c.in-Err.limit) (gathered_refused c) c.deref.ensures.value c.in-Err.ensures.wide)
