use Rattle.std.proofs.Common.{◌≡◌, ◌+◌, ◌*◌, ◌-◌, ◌<◌, ◌^◌, ◌/◌, length, get_or, take, drop, refl, arith}
use Rattle.std.proofs.lemmas.Result.{IfOk-weaker}
use Rattle.std.proofs.lemmas.List.{take_rest}
use Rattle.theory_polynomial.specs.Polynomial.{product_of, multiple_of, sum_of, height_of}
use Rattle.theory_poly.specs.Kept.{IsGathered}
use Rattle.theory_poly.proofs.HeightLaws.{nothing}
use Rattle.theory_poly.proofs.ProductLaws.{kept_taken, kept_dropped, kept_term, only_one, shorter_taken, shorter_dropped, gathered_row, gathered_product}
use Rattle.theory_poly.proofs.product.+multiplied_out.Goals as goal

pub returns-then-a-eq1 : goal.returns-then-a-eq1
returns-then-a-eq1 t c =
    IfOk-weaker c.row.result (λ r. r.items ≡ multiple_of (get_or c.args.a.now 0 nothing) c.args.b.now)
    (λ r. IsGathered (product_of c.args.a.now c.args.b.now) (length c.args.a.now * 2 ^ 116) r.items)
    (λ r is. gathered_row (get_or c.args.a.now 0 nothing) c.args.a.now c.args.b.now r.items
    (kept_term c.args.a.now 0 nothing (omega (arith, c.if-a-eq1.true)) c.requires.first)
    c.requires.second (only_one c.args.a.now nothing c.if-a-eq1.true) is) c.row.ensures

pub multiplied_out-requires : goal.multiplied_out-requires
multiplied_out-requires t c =
    let half = length c.args.a.now / 2 in
    let fewer : length (take half c.args.a.now) < length c.args.a.now =
    shorter_taken half c.args.a.now (omega (arith, c.if-a-eq0.false, c.if-a-eq1.false)) in
    (omega (arith, c.decreases, fewer), (kept_taken half c.args.a.now (take half c.args.a.now) refl c.requires.first, c.requires.second))

pub multiplied_out-requires-2 : goal.multiplied_out-requires-2
multiplied_out-requires-2 t c =
    let half = length c.args.a.now / 2 in
    let rest = take_rest c.args.a.now half in
    let fewer : length (take (length c.args.a.now - half) (drop half c.args.a.now)) < length c.args.a.now =
    shorter_dropped half c.args.a.now _ rest (omega (arith, c.if-a-eq0.false, c.if-a-eq1.false)) (omega (arith, c.if-a-eq0.false)) in
    (omega (arith, c.decreases, fewer), (kept_dropped half c.args.a.now _ rest c.requires.first, c.requires.second))

pub returns : goal.returns
returns t c =
    IfOk-weaker c.merged.result (λ r. IsGathered (sum_of c.deref.result.now c.deref-2.result.now)
    (height_of c.deref.result.now + height_of c.deref-2.result.now) r.items)
    (λ r. IsGathered (product_of c.args.a.now c.args.b.now) (length c.args.a.now * 2 ^ 116) r.items)
    (λ r g. gathered_product (length c.args.a.now / 2) c.args.a.now c.args.b.now _ _ c.in_ok-left.left.items c.in_ok-right.right.items
    c.deref.result.now c.deref-2.result.now r.items refl (take_rest c.args.a.now (length c.args.a.now / 2)) c.in_ok-left.ensures c.in_ok-right.ensures
    c.deref.ensures.value c.deref-2.ensures.value g) c.merged.ensures
