use Rattle.std.proofs.Common.{◌+◌, get_or, arith}
use Rattle.std.proofs.lemmas.List.{length-set}
use Rattle.theory_poly.proofs.ProductLaws.{greatest_at, powers_more, powers_all}
use Rattle.theory_poly.proofs.product.sum_of_powers.Goals as goal

pub overflow_add-sums : goal.overflow_add-sums
overflow_add-sums c =
    let first = greatest_at c.args.a.now c.loop-k.k (omega (arith, c.told-a, c.loop-k-test.true)) in
    let second = greatest_at c.args.b.now c.loop-k.k (omega (arith, c.told-b, c.loop-k-test.true)) in
    grind (arith, first, second, c.requires.first, c.requires.second)

pub loop-k-preserved : goal.loop-k-preserved
loop-k-preserved c = record {
  places = let e = length-set c.loop-k.sums c.loop-k.k (get_or c.args.a.now c.loop-k.k 0 + get_or c.args.b.now c.loop-k.k 0) in
      omega (arith, e, c.loop-k.invariant.places);
  so_far = powers_more c.loop-k.sums c.args.a.now c.args.b.now c.loop-k.k (omega (arith, c.loop-k.invariant.places, c.loop-k-test.true))
      (omega (arith, c.told-a, c.loop-k-test.true)) (omega (arith, c.told-b, c.loop-k-test.true)) c.loop-k.invariant.so_far;
}

pub returns : goal.returns
returns c = powers_all c.loop-k.sums c.args.a.now c.args.b.now c.loop-k.k (omega (arith, c.loop-k.invariant.places, c.loop-k-test.false))
    (omega (arith, c.told-a, c.loop-k-test.false)) (omega (arith, c.told-b, c.loop-k-test.false)) c.loop-k.invariant.so_far
