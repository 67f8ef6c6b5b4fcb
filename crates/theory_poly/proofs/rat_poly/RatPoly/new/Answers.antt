use Rattle.std.proofs.Common.{◌≡◌, ◌/◌, ◌<◌, w64, unsigned_abs, ap, subst, arith}
use Rattle.std.proofs.lemmas.Int.{ints}
use mir.Val.{to_z, of_z}
use Rattle.theory_poly.specs.Kept.{IsGreatestWith}
use Rattle.theory_poly.proofs.QuotientLaws.{lowest_by_division}
use Rattle.theory_poly.proofs.QuotientSums.{new_is_kept}
use Rattle.theory_poly.proofs.rat_poly.RatPoly.new.Goals as goal

pub invariant_of-result : goal.invariant_of-result
invariant_of-result c =
    let cast : to_z w64 (of_z w64 c.args.below) ≡ c.args.below = omega (arith, ints, c.ranges.below) in
    let positive : 0 < unsigned_abs c.args.below = omega (arith, ints, c.requires.low) in
    new_is_kept c.args.poly c.divided_by.result c.as_slice.result.now (unsigned_abs c.args.below) c.divisor_of_narrow-divisor.result
    (unsigned_abs (to_z w64 (of_z w64 c.args.below)) / c.divisor_of_narrow-divisor.result) c.as_slice.ensures.kept c.requires.high positive
    c.divisor_of_narrow-divisor.ensures.positive c.as_slice.ensures.value
    (subst (λ z. IsGreatestWith (unsigned_abs z) c.as_slice.result.now c.divisor_of_narrow-divisor.result) cast c.divisor_of_narrow-divisor.ensures.value)
    c.divided_by.ensures
    (ap (λ z. unsigned_abs z / c.divisor_of_narrow-divisor.result) cast)

pub returns : goal.returns
returns c =
    let cast : to_z w64 (of_z w64 c.args.below) ≡ c.args.below = omega (arith, ints, c.ranges.below) in
    let positive : 0 < unsigned_abs c.args.below = omega (arith, ints, c.requires.low) in
    lowest_by_division c.args.poly c.divided_by.result (unsigned_abs c.args.below) c.divisor_of_narrow-divisor.result
    (unsigned_abs (to_z w64 (of_z w64 c.args.below)) / c.divisor_of_narrow-divisor.result) c.as_slice.ensures.kept.ordered positive
    (subst (λ y. IsGreatestWith (unsigned_abs c.args.below) y c.divisor_of_narrow-divisor.result) c.as_slice.ensures.value
    (subst (λ z. IsGreatestWith (unsigned_abs z) c.as_slice.result.now c.divisor_of_narrow-divisor.result) cast c.divisor_of_narrow-divisor.ensures.value))
    c.divided_by.ensures
    (ap (λ z. unsigned_abs z / c.divisor_of_narrow-divisor.result) cast)
