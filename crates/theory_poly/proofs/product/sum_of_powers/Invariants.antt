use Rattle.std.proofs.Common.{◌≡◌, length, take}
use Rattle.theory_polynomial.specs.Polynomial.{powers_of_product}
use Rattle.theory_poly.proofs.product.sum_of_powers.Given as goal

abbrev pub invariant-loop-k : goal.invariant-loop-k
invariant-loop-k l = record {
  places : length l.sums ≡ 32;
  so_far : take l.k l.sums ≡ powers_of_product (take l.k l.a) (take l.k l.b);
}
