use Rattle.std.proofs.Common.{◌≡◌, ◌+◌, ◌^◌, w64, subst, arith}
use mir.Val.{to_z, of_z}
use Rattle.std.proofs.lemmas.Int.{ints}
use Rattle.std.proofs.lemmas.Result.{IfOk-weaker}
use Rattle.theory_polynomial.specs.Polynomial.{scaled, sum_of, height_of}
use Rattle.theory_poly.specs.Kept.{IsGathered}
use Rattle.theory_poly.proofs.ScaleLaws.{gathered_sum}
use Rattle.theory_poly.proofs.merging.sum_of_multiples.Goals as goal

pub returns : goal.returns
returns c =
    let m_is : to_z w64 (of_z w64 c.args.m) ≡ c.args.m = omega (arith, ints, c.ranges.m) in
    let n_is : to_z w64 (of_z w64 c.args.n) ≡ c.args.n = omega (arith, ints, c.ranges.n) in
    let left = subst (λ z. IsGathered (scaled z c.args.a.now) (2 ^ 116) c.in_ok-left.left.items) m_is c.in_ok-left.ensures in
    let right = subst (λ z. IsGathered (scaled z c.args.b.now) (2 ^ 116) c.in_ok-right.right.items) n_is c.in_ok-right.ensures in
    let a = c.deref.result.now in
    let b = c.deref-2.result.now in
    IfOk-weaker c.merged.result (λ r. IsGathered (sum_of a b) (height_of a + height_of b) r.items)
    (λ r. IsGathered (sum_of (scaled c.args.m c.args.a.now) (scaled c.args.n c.args.b.now)) (2 ^ 117) r.items)
    (λ r g. gathered_sum (scaled c.args.m c.args.a.now) (scaled c.args.n c.args.b.now) c.in_ok-left.left.items c.in_ok-right.right.items r.items a b
    (2 ^ 116) (2 ^ 116) (2 ^ 117) (omega arith) left right c.deref.ensures.value c.deref-2.ensures.value g) c.merged.ensures
