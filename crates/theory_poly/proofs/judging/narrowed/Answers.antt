use Rattle.std.proofs.Common.{arith}
use Rattle.theory_poly.proofs.HeightLaws.{height_at, nothing}
use Rattle.theory_poly.proofs.judging.narrowed.Goals as goal

pub narrow-requires : goal.narrow-requires
narrow-requires c =
    let h = height_at c.args.terms.now c.loop-t.t-index nothing c.loop-t-test.true in
    omega (arith, h, c.requires.within.coefficients)
