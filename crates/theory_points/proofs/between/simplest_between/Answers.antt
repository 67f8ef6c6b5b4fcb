use Rattle.std.proofs.Common.{◌≡◌, ◌≤ℤ◌, pos, ◌-ℤ◌, neg_ℤ, to_z, of_z, w64, arith}
use Rattle.std.proofs.lemmas.Int.{ints}
use Rattle.theory_meaning.specs.Fraction.{den}
use Rattle.theory_points.proofs.SimplestLemmasSigned.{below_is_negative, simplest_from_magnitudes, simplest_from_mirrored, simplest_is_zero, reduced_from_magnitudes, reduced_from_mirrored, zero_is_reduced}
use Rattle.theory_points.proofs.between.simplest_between.Goals as goal
use Rattle.theory_points.proofs.between.simplest_between.Goals.{After-simplest_of_magnitudes-top}

-- what is computed in the mirrored case is the opposite numerator and the same denominator
opposite : (c : After-simplest_of_magnitudes-top) →
    to_z w64 (of_z w64 (pos 0 -ℤ to_z w64 (of_z w64 c.simplest_of_magnitudes-top.result.0))) ≡ neg_ℤ c.simplest_of_magnitudes-top.result.0
opposite c = omega (arith, ints)

same : (c : After-simplest_of_magnitudes-top) → to_z w64 (of_z w64 c.simplest_of_magnitudes-top.result.1) ≡ c.simplest_of_magnitudes-top.result.1
same c = omega (arith, ints)

pub returns-then-num-le0-clause-simplest : goal.returns-then-num-le0-clause-simplest
returns-then-num-le0-clause-simplest c =
    let here = (goal.at.returns-then-num-le0-clause-simplest c).After-simplest_of_magnitudes-top in
    let lo = c.args.lo.now in let hi = c.args.hi.now in let found = c.simplest_of_magnitudes-top in
    let high : hi.num ≤ℤ pos 0 = grind (arith, ints) in
    let low : lo.num ≤ℤ pos 0 = below_is_negative lo.num hi.num (den lo) (den hi) high c.requires in
    rw (opposite here, same here) (simplest_from_mirrored lo hi _ _ low high found.ensures.least)

pub returns-then-num-le0-clause-reduced : goal.returns-then-num-le0-clause-reduced
returns-then-num-le0-clause-reduced c =
    let here = (goal.at.returns-then-num-le0-clause-reduced c).After-simplest_of_magnitudes-top in
    rw (opposite here, same here) (reduced_from_mirrored c.args.lo.now c.args.hi.now _ _ c.simplest_of_magnitudes-top.ensures.least)

pub returns-then-num-lt0-clause-simplest : goal.returns-then-num-lt0-clause-simplest
returns-then-num-lt0-clause-simplest c =
    simplest_is_zero c.args.lo.now c.args.hi.now (grind (arith, ints)) (grind (arith, ints))

pub returns-then-num-lt0-clause-reduced : goal.returns-then-num-lt0-clause-reduced
returns-then-num-lt0-clause-reduced c = zero_is_reduced

pub returns-else-num-lt0-clause-simplest : goal.returns-else-num-lt0-clause-simplest
returns-else-num-lt0-clause-simplest c =
    simplest_from_magnitudes c.args.lo.now c.args.hi.now _ _ (grind (arith, ints)) (grind (arith, ints)) c.simplest_of_magnitudes.ensures.least

pub returns-else-num-lt0-clause-reduced : goal.returns-else-num-lt0-clause-reduced
returns-else-num-lt0-clause-reduced c =
    reduced_from_magnitudes c.args.lo.now c.args.hi.now _ _ c.simplest_of_magnitudes.ensures.least
