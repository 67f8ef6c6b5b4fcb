-- Differences, opposites and quotients as equal numbers, and 0 and 1 on either side.
use Rattle.std.proofs.Common.{pos, refl}
use Rattle.theory_meaning.specs.Fraction.{Fraction, whole, sum_of, difference_of, product_of, opposite_of, quotient_of}
use Rattle.theory_meaning.proofs.FractionLaws.{Equals, exact, along, sums}
use Rattle.theory_meaning.proofs.ValueLaws.{difference_respects, opposite_respects, quotient_respects, sum-zero_right, product-swap, difference-is, one-product}

pub self : (q : Fraction) → Equals q q
self q = record { is = refl }

pub differences : {q p r s : Fraction} → Equals q p → Equals r s → Equals (difference_of q r) (difference_of p s)
differences {q} {p} {r} {s} h k = record { is = difference_respects q p r s h.is k.is }

pub opposites : {q p : Fraction} → Equals q p → Equals (opposite_of q) (opposite_of p)
opposites {q} {p} h = record { is = opposite_respects q p h.is }

pub quotients : {q p r s : Fraction} → Equals q p → Equals r s → Equals (quotient_of q r) (quotient_of p s)
quotients {q} {p} {r} {s} h k = record { is = quotient_respects q p r s h.is k.is }

pub plus_zero : (q : Fraction) → Equals (sum_of q (whole (pos 0))) q
plus_zero q = record { is = sum-zero_right q }

pub one_times : (q : Fraction) → Equals (product_of (whole (pos 1)) q) q
one_times q = record { is = one-product q }

pub times_one : (q : Fraction) → Equals (product_of q (whole (pos 1))) q
times_one q = along (exact (product-swap q (whole (pos 1)))) (one_times q)

pub zero_opposite : Equals (opposite_of (whole (pos 0))) (whole (pos 0))
zero_opposite = record { is = refl }

pub less_zero : (q : Fraction) → Equals (difference_of q (whole (pos 0))) q
less_zero q = along (exact (difference-is q (whole (pos 0)))) (along (sums (self q) zero_opposite) (plus_zero q))
