use Rattle.std.proofs.Common.{arith}
use Rattle.theory_poly.proofs.HeightLaws.{height_at, nothing}
use Rattle.theory_lower.proofs.polynomials.polynomial.Goals as goal

pub term-requires : goal.term-requires
term-requires c =
    let h = height_at c.args.terms.now c.loop-t.t-index nothing c.loop-t-test.true in
    omega (arith, h, c.requires.within.coefficients)
