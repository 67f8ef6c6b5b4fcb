use Rattle.std.proofs.Common.{w64, ◌<◌, ◌≤◌, ◌*◌, ◌^◌, unsigned_abs, arith}
use Rattle.std.proofs.lemmas.Int.{ints, to_z_pos}
use Rattle.theory_meaning.specs.Fraction.{den}
use Rattle.theory_meaning.specs.Limits.{bound}
use Rattle.theory_points.specs.Simplest.{IsLeastBetween}
use Rattle.theory_points.proofs.SimplestLemmas.{within_sums}
use Rattle.theory_points.proofs.between.simplest_of_magnitudes.Goals as goal
use Rattle.theory_points.proofs.between.simplest_of_magnitudes.Goals.{After-simplest-found}

-- what was found is the least between the magnitudes of the two fractions
least : (c : After-simplest-found) →
    IsLeastBetween (unsigned_abs c.args.lo.now.num) (den c.args.lo.now) (unsigned_abs c.args.hi.now.num) (den c.args.hi.now)
    c.simplest-found.result.top c.simplest-found.result.bottom
least c =
    rw (c.magnitude.ensures.top, c.magnitude.ensures.bottom, c.magnitude-2.ensures.top, c.magnitude-2.ensures.bottom) at c.simplest-found.ensures

-- and its parts are within twice the bound
parts_within : (c : After-simplest-found) → (c.simplest-found.result.top ≤ 2 * bound) × (c.simplest-found.result.bottom ≤ 2 * bound)
parts_within c = let sums = within_sums (least c) c.requires in (omega (arith, sums), omega (arith, sums))

pub overflow_cast-result : goal.overflow_cast-result
overflow_cast-result c = omega (arith, ints, parts_within (goal.at.overflow_cast-result c).After-simplest-found)

pub overflow_cast-result-2 : goal.overflow_cast-result-2
overflow_cast-result-2 c = omega (arith, ints, parts_within (goal.at.overflow_cast-result-2 c).After-simplest-found)

pub returns-clause-least : goal.returns-clause-least
returns-clause-least c =
    let here = (goal.at.returns-clause-least c).After-simplest-found in
    let within = parts_within here in
    let top : c.simplest-found.result.top < 2 ^ 63 = omega (arith, within) in
    let bottom : c.simplest-found.result.bottom < 2 ^ 63 = omega (arith, within) in
    rw (to_z_pos w64 c.simplest-found.result.top top, to_z_pos w64 c.simplest-found.result.bottom bottom)
    (record { top = omega (arith, ints); bottom = omega (arith, ints); least = least here })

pub returns-clause-bounds : goal.returns-clause-bounds
returns-clause-bounds c =
    let within = parts_within (goal.at.returns-clause-bounds c).After-simplest-found in
    record { top = omega (arith, ints, within); bottom = omega (arith, ints, within) }
