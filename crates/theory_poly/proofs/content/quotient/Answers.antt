use Rattle.std.proofs.Common.{◌≡◌, ◌-ℤ◌, ◌*ℤ◌, pos, neg_ℤ, unsigned_abs, ◌/◌, true, false, ap, ◌∙◌, subst, arith}
use Rattle.std.specs.Prelude.{int_lt}
use Rattle.theory_meaning.proofs.WholeLaws.{lt_from_test, le_from_test}
use Rattle.std.proofs.Math.Nat.{div-le_self}
use Rattle.std.proofs.lemmas.Int.{ints}
use Rattle.std.specs.Int.{w128}
use mir.Val.{to_z, of_z}
use Rattle.theory_poly.proofs.ContentLaws.{quotient_of_positive, quotient_of_negative}
use Rattle.theory_poly.proofs.content.quotient.Goals as goal

pub returns-then-coefficient-lt0 : goal.returns-then-coefficient-lt0
returns-then-coefficient-lt0 c =
    let same : to_z w128 (of_z w128 c.args.coefficient) ≡ c.args.coefficient = omega (arith, ints, c.ranges.coefficient) in
    let q = c.unsigned_abs.result / c.args.divisor in
    let small = div-le_self c.unsigned_abs.result c.args.divisor in
    let form : to_z w128 (of_z w128 (pos 0 -ℤ to_z w128 q)) ≡ neg_ℤ (pos q) = omega (arith, ints, small, c.unsigned_abs.ensures.value, c.requires.small) in
    ap (λ z. pos c.args.divisor *ℤ z) form
    ∙ quotient_of_negative c.args.coefficient c.args.divisor c.unsigned_abs.result
    (lt_from_test c.args.coefficient (pos 0) (subst (λ z. int_lt z (pos 0) ≡ true) same c.if-coefficient-lt0.true)) c.requires.divides
    (c.unsigned_abs.ensures.value ∙ ap unsigned_abs same)

pub returns-else-coefficient-lt0 : goal.returns-else-coefficient-lt0
returns-else-coefficient-lt0 c =
    let same : to_z w128 (of_z w128 c.args.coefficient) ≡ c.args.coefficient = omega (arith, ints, c.ranges.coefficient) in
    let q = c.unsigned_abs.result / c.args.divisor in
    let small = div-le_self c.unsigned_abs.result c.args.divisor in
    let form : to_z w128 q ≡ pos q = omega (arith, ints, small, c.unsigned_abs.ensures.value, c.requires.small) in
    ap (λ z. pos c.args.divisor *ℤ z) form
    ∙ quotient_of_positive c.args.coefficient c.args.divisor c.unsigned_abs.result
    (le_from_test c.args.coefficient (pos 0) (subst (λ z. int_lt z (pos 0) ≡ false) same c.if-coefficient-lt0.false)) c.requires.divides
    (c.unsigned_abs.ensures.value ∙ ap unsigned_abs same)
