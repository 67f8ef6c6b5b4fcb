use Rattle.std.proofs.Common.{◌+◌, ◌^◌}
use Rattle.std.proofs.lemmas.Result.{IfOk-weaker}
use Rattle.theory_polynomial.specs.Polynomial.{cross_of, sum_of, height_of}
use Rattle.theory_poly.specs.Kept.{IsGathered}
use Rattle.theory_poly.proofs.ProductLaws.{kept_turned, gathered_cross}
use Rattle.theory_poly.proofs.product.cross_product.Goals as goal

pub multiplied_out-requires-2-clause-first : goal.multiplied_out-requires-2-clause-first
multiplied_out-requires-2-clause-first c =
    kept_turned c.args.a2.now c.in_ok-turned.turned.items c.deref.result.now c.in_ok-turned.ensures c.deref.ensures.value c.requires.second_slope

pub returns : goal.returns
returns c =
    IfOk-weaker c.merged.result (λ r. IsGathered (sum_of c.deref-2.result.now c.deref-3.result.now)
    (height_of c.deref-2.result.now + height_of c.deref-3.result.now) r.items)
    (λ r. IsGathered (cross_of c.args.a.now c.args.b2.now c.args.a2.now c.args.b.now) (2 ^ 124) r.items)
    (λ r g. gathered_cross c.args.a.now c.args.b2.now c.args.a2.now c.args.b.now c.in_ok-left.left.items c.in_ok-right.right.items
    c.in_ok-turned.turned.items r.items
    c.deref.result.now c.deref-2.result.now c.deref-3.result.now c.requires.slope.within.terms c.requires.second_slope.within.terms c.in_ok-turned.ensures
    c.deref.ensures.value
    c.in_ok-left.ensures c.in_ok-right.ensures c.deref-2.ensures.value c.deref-3.ensures.value g) c.merged.ensures
