use Rattle.std.proofs.Common.{◌≡◌, ◌≢◌, ℤ, pos, neg_ℤ, unsigned_abs, ap, ◌∙◌, subst, subst₂, arith, w64}
use Rattle.std.specs.Prelude.{if◌then◌else◌}
use Rattle.std.proofs.lemmas.Int.{ints}
use mir.Val.{to_z, of_z}
use Rattle.theory_polynomial.specs.Polynomial.{constant_of}
use Rattle.theory_polynomial.specs.RationalPolynomial.{IsLowestOf}
use Rattle.theory_lowering.specs.RationalFunction.{over}
use Rattle.theory_lower.proofs.QuotientParts.{scaled_value, scaled_wide}
use Rattle.theory_lower.proofs.quotients.scaled.Goals as goal

pub returns-clause-value : goal.returns-clause-value
returns-clause-value c =
    let n : ℤ = if c.args.turned then neg_ℤ (pos (unsigned_abs c.args.top)) else pos (unsigned_abs c.args.top) in
    let top : to_z w64 (of_z w64 c.args.top) ≡ c.args.top = omega (arith, ints, c.requires.top_low, c.requires.top_high) in
    let below : to_z w64 (of_z w64 c.args.below) ≡ c.args.below = omega (arith, ints, c.requires.low, c.requires.high) in
    let made : to_z w64 (of_z w64 c.with_sign.result) ≡ c.with_sign.result = omega (arith, ints, c.with_sign.ensures.small) in
    let is : c.with_sign.result ≡ n =
    c.with_sign.ensures.value ∙ ap (λ (z : ℤ). if c.args.turned then neg_ℤ (pos (unsigned_abs z)) else pos (unsigned_abs z)) top in
    let kept = c.below-positive.ensures.kept in
    scaled_value c.args.q.now n (unsigned_abs c.args.below) c.in_ok-scale.scale kept.lowest.ordered
    (subst (λ (z : ℤ). z ≢ pos 0) is c.with_sign.ensures.nonzero) (omega (arith, ints, c.requires.low))
    (subst₂ (λ (z y : ℤ). IsLowestOf (over (constant_of z) (unsigned_abs y)) c.in_ok-scale.scale) (made ∙ is) below c.in_ok-scale.ensures.value)
    c.mul.result c.mul.ensures.value

pub returns-clause-wide : goal.returns-clause-wide
returns-clause-wide c =
    let n : ℤ = if c.args.turned then neg_ℤ (pos (unsigned_abs c.args.top)) else pos (unsigned_abs c.args.top) in
    let top : to_z w64 (of_z w64 c.args.top) ≡ c.args.top = omega (arith, ints, c.requires.top_low, c.requires.top_high) in
    let below : to_z w64 (of_z w64 c.args.below) ≡ c.args.below = omega (arith, ints, c.requires.low, c.requires.high) in
    let made : to_z w64 (of_z w64 c.with_sign.result) ≡ c.with_sign.result = omega (arith, ints, c.with_sign.ensures.small) in
    let is : c.with_sign.result ≡ n =
    c.with_sign.ensures.value ∙ ap (λ (z : ℤ). if c.args.turned then neg_ℤ (pos (unsigned_abs z)) else pos (unsigned_abs z)) top in
    let kept = c.below-positive.ensures.kept in
    scaled_wide c.args.q.now n (unsigned_abs c.args.below) c.in_ok-scale.scale kept.lowest.ordered
    (subst (λ (z : ℤ). z ≢ pos 0) is c.with_sign.ensures.nonzero) (omega (arith, ints, c.requires.low))
    (subst₂ (λ (z y : ℤ). IsLowestOf (over (constant_of z) (unsigned_abs y)) c.in_ok-scale.scale) (made ∙ is) below c.in_ok-scale.ensures.value)
    c.mul.result kept.lowest.positive c.mul.ensures.value c.mul.ensures.wide
