use Rattle.std.proofs.Common.{◌≡◌, w64, to_z, of_z, to_z-of_z, arith}
use Rattle.std.proofs.lemmas.Int.{ints}
use Rattle.theory_points.proofs.WholeLemmas.{floor_by_division}
use Rattle.theory_points.proofs.whole.rounded_down.Goals as goal

pub returns-clause-value : goal.returns-clause-value
returns-clause-value c =
    let whole : to_z w64 (of_z w64 c.div_euclid.result) ≡ c.div_euclid.result = omega (arith, ints) in
    floor_by_division (to_z-of_z c.ranges.num) (to_z-of_z c.ranges.den) c.div_euclid.ensures whole c.requires
