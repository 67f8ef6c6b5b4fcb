use Rattle.std.proofs.Common.{arith}
use Rattle.std.proofs.lemmas.Int.{ints}
use Rattle.theory_poly.proofs.HeightLaws.{height_at, nothing}
use Rattle.theory_poly.proofs.merging.multiplied.Goals as goal

pub product-requires-clause-second : goal.product-requires-clause-second
product-requires-clause-second c =
    let h = height_at c.args.terms.now c.loop-t.t-index nothing c.loop-t-test.true in
    omega (arith, ints, h, c.requires.terms)
