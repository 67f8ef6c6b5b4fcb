use Rattle.std.proofs.Common.{arith}
use Rattle.theory_poly.proofs.HeightLaws.{height_at, nothing}
use Rattle.theory_poly.proofs.product.negated.Goals as goal

pub negative-requires : goal.negative-requires
negative-requires c =
    let h = height_at c.args.terms.now c.loop-t.t-index nothing c.loop-t-test.true in
    omega (arith, h, c.requires.within.coefficients)
