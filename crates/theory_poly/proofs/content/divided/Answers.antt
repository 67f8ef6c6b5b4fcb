use Rattle.std.proofs.Common.{◌≡◌, unsigned_abs, get_or, sym, subst, arith}
use Prim.Native.Nat.{◌∣◌}
use Rattle.std.proofs.lemmas.Int.{ints}
use Rattle.std.specs.Int.{w128}
use mir.Val.{to_z, of_z}
use Rattle.theory_poly.proofs.HeightLaws.{height_at, nothing}
use Rattle.theory_poly.proofs.ContentLaws.{each_at}
use Rattle.theory_poly.proofs.content.divided.Goals as goal

pub quotient-requires-clause-divides : goal.quotient-requires-clause-divides
quotient-requires-clause-divides c =
    let x = (get_or c.args.terms.now c.loop-t.t-index nothing).coefficient in
    let h = height_at c.args.terms.now c.loop-t.t-index nothing c.loop-t-test.true in
    let same : to_z w128 (of_z w128 x) ≡ x = omega (arith, ints, h, c.requires.small) in
    subst (λ z. c.args.divisor ∣ unsigned_abs z) (sym same)
    (each_at c.args.divisor c.args.terms.now c.loop-t.t-index nothing c.loop-t-test.true c.requires.divides)

pub quotient-requires-clause-small : goal.quotient-requires-clause-small
quotient-requires-clause-small c =
    let h = height_at c.args.terms.now c.loop-t.t-index nothing c.loop-t-test.true in
    omega (arith, ints, h, c.requires.small)
