-- A polynomial times a whole number, and sums of such.
use Rattle.std.proofs.Common.{◌≡◌, ◌≢◌, ℕ, zero, suc, ◌+◌, ◌*◌, ◌^◌, ◌≤◌, ℤ, pos, negsuc, ◌*ℤ◌, List, [], ◌∷◌, max, refl, sym, ap, ◌∙◌, subst, arith, unsigned_abs}
use Rattle.std.proofs.lemmas.Int.{ints, unsigned_abs-mul}
use Rattle.std.proofs.Math.Nat.{mul-le-mul_left, mul-le-mul}
use Rattle.theory_meaning.specs.Limits.{bound}
use Rattle.theory_polynomial.specs.Polynomial.{Monomial, coefficient_at, AreSame, PrecedesFirst, IsPolynomial, IsPolynomialOf, scaled, sum_of, difference_of, height_of}
use Rattle.theory_polynomial.proofs.CoefficientLaws.{coefficient_at-scaled, sum_same, same_trans, same_itself, scaled_once}
use Rattle.theory_poly.specs.Kept.{IsKept, IsGathered}

-- a product of two numbers that aren't 0 isn't 0
pub product_is_not_zero : (a b : ℤ) → a ≢ pos 0 → b ≢ pos 0 → a *ℤ b ≢ pos 0
product_is_not_zero (pos zero) b h k e = h refl
product_is_not_zero (pos (suc m)) (pos zero) h k e = k refl
product_is_not_zero (pos (suc m)) (pos (suc n)) h k e = absurd (omega (arith, ints, e))
product_is_not_zero (pos (suc m)) (negsuc n) h k e = absurd (omega (arith, ints, e))
product_is_not_zero (negsuc m) (pos zero) h k e = k refl
product_is_not_zero (negsuc m) (pos (suc n)) h k e = absurd (omega (arith, ints, e))
product_is_not_zero (negsuc m) (negsuc n) h k e = absurd (omega (arith, ints, e))

-- the first exponents stay
pub precedes_scaled : (n : ℤ) (e : List ℕ) (ts : List Monomial) → PrecedesFirst e ts → PrecedesFirst e (scaled n ts)
precedes_scaled n e [] h = h
precedes_scaled n e (t ∷ ts) h = h

-- so a multiple is in the fixed order
pub scaled_ordered : (n : ℤ) (ts : List Monomial) → n ≢ pos 0 → IsPolynomial ts → IsPolynomial (scaled n ts)
scaled_ordered n [] h k = tt
scaled_ordered n (t ∷ ts) h k = (
  record { nonzero = product_is_not_zero n t.coefficient h k.0.nonzero; places = k.0.places },
  precedes_scaled n t.powers ts k.1,
  scaled_ordered n ts h k.2,
)

-- how great the coefficients become
pub scaled_height : (n : ℤ) (ts : List Monomial) → height_of (scaled n ts) ≤ unsigned_abs n * height_of ts
scaled_height n [] = omega arith
scaled_height n (t ∷ ts) =
    let own = unsigned_abs-mul n t.coefficient in
    let rest = scaled_height n ts in
    let first : unsigned_abs n * unsigned_abs t.coefficient ≤ unsigned_abs n * max (unsigned_abs t.coefficient) (height_of ts) =
    mul-le-mul_left (unsigned_abs n) (omega arith) in
    let second : unsigned_abs n * height_of ts ≤ unsigned_abs n * max (unsigned_abs t.coefficient) (height_of ts) =
    mul-le-mul_left (unsigned_abs n) (omega arith) in
    omega (arith, own, rest, first, second)

pub product_within : (a b : ℕ) → a ≤ bound → b ≤ bound → a * b ≤ 2 ^ 116
product_within a b h k = mul-le-mul h k

nothing_times : (a : ℤ) → pos 0 *ℤ a ≡ pos 0
nothing_times a = omega (arith, ints)

-- a multiple by 0 is nothing
pub gathered_nothing : (n : ℤ) (ts : List Monomial) (m : ℕ) → n ≡ pos 0 → IsGathered (scaled n ts) m []
gathered_nothing n ts m h = record {
  ordered = record {
    ordered = tt;
    same = record { at = λ e. sym (coefficient_at-scaled n ts e ∙ ap (λ z. z *ℤ coefficient_at ts e) h ∙ nothing_times (coefficient_at ts e)) };
  };
  height = omega arith;
}

pub gathered_multiple : (n : ℤ) (ts r : List Monomial) → n ≢ pos 0 → unsigned_abs n ≤ bound → IsKept ts → r ≡ scaled n ts → IsGathered (scaled n ts) (2 ^ 116) r
gathered_multiple n ts r some small kept is = subst (IsGathered (scaled n ts) (2 ^ 116)) (sym is) (record {
  ordered = record { ordered = scaled_ordered n ts some kept.ordered; same = same_itself (scaled n ts) };
  height = let h = scaled_height n ts in
      let k = product_within (unsigned_abs n) (height_of ts) small kept.within.coefficients in omega (arith, h, k);
})

-- the polynomial of what is the same
pub polynomial_of_same : (ts us r : List Monomial) → AreSame ts us → IsPolynomialOf ts r → IsPolynomialOf us r
polynomial_of_same ts us r h k = record { ordered = k.ordered; same = same_trans r ts us k.same h }

-- a sum of what was gathered
pub gathered_sum : (ts us a b r x y : List Monomial) (m n k : ℕ) → m + n ≤ k → IsGathered ts m a → IsGathered us n b → x ≡ a → y ≡ b
    → IsGathered (sum_of x y) (height_of x + height_of y) r → IsGathered (sum_of ts us) k r
gathered_sum ts us a b r x y m n k small h l is_first is_second g = record {
  ordered = polynomial_of_same (sum_of x y) (sum_of ts us) r
      (sum_same x y ts us (subst (λ z. AreSame z ts) (sym is_first) h.ordered.same) (subst (λ z. AreSame z us) (sym is_second) l.ordered.same)) g.ordered;
  height = let first = ap height_of is_first in let second = ap height_of is_second in
      let p = h.height in let q = l.height in let s = g.height in omega (arith, first, second, p, q, s);
}

-- once each, and the second turned
pub once_each : (ts us : List Monomial) → AreSame (sum_of (scaled (pos 1) ts) (scaled (pos 1) us)) (sum_of ts us)
once_each ts us = sum_same (scaled (pos 1) ts) (scaled (pos 1) us) ts us (scaled_once ts) (scaled_once us)

pub second_turned : (ts us : List Monomial) → AreSame (sum_of (scaled (pos 1) ts) (scaled (negsuc 0) us)) (difference_of ts us)
second_turned ts us = sum_same (scaled (pos 1) ts) (scaled (negsuc 0) us) ts (scaled (negsuc 0) us) (scaled_once ts) (same_itself (scaled (negsuc 0) us))
