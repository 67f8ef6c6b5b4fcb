-- Fractions of any size: a whole number over a positive whole number, compared by cross products.
-- Source: textbook.
use Rattle.std.specs.Prelude.{◌≡◌, ℕ, zero, suc, ◌+◌, ◌*◌, Bool, ℤ, pos, ◌+ℤ◌, ◌*ℤ◌, negsuc, neg_ℤ, ◌<ℤ◌, int_lt}
use Rattle.std.specs.Ordering.{int_eq}
use Rattle.theory_meaning.specs.declared.words.Sign.{Sign}
use Rattle.theory_meaning.specs.declared.words.Sign.TheVariants.{Minus, Zero, Plus}

-- a numerator, and the denominator less one, so that no denominator is 0
pub record Fraction : Type 0 where
  pub num : ℤ
  pub less : ℕ

-- the denominator
abbrev pub den : Fraction → ℕ
den q = q.less + 1

-- the fraction of a whole number
abbrev pub whole : ℤ → Fraction
whole n = record { num = n; less = 0 }

-- the numerator of q when both are brought over the product of the denominators
abbrev pub cross : Fraction → Fraction → ℤ
cross q r = q.num *ℤ pos (den r)

-- the same number
abbrev pub IsSame : Fraction → Fraction → Type 0
IsSame q r = cross q r ≡ cross r q

-- q is below r
abbrev pub IsBelow : Fraction → Fraction → Type 0
IsBelow q r = cross q r <ℤ cross r q

-- the same number, as a test
abbrev pub same : Fraction → Fraction → Bool
same q r = int_eq (cross q r) (cross r q)

-- q is below r, as a test
abbrev pub below : Fraction → Fraction → Bool
below q r = int_lt (cross q r) (cross r q)

-- the sign of a fraction is that of its numerator
abbrev pub HasSign : Fraction → Sign → Type 0
HasSign q Minus = q.num <ℤ pos 0
HasSign q Zero = q.num ≡ pos 0
HasSign q Plus = pos 0 <ℤ q.num

-- the sign of the opposite number
abbrev pub opposite_sign : Sign → Sign
opposite_sign Minus = Plus
opposite_sign Zero = Zero
opposite_sign Plus = Minus

-- the number with its sign turned
abbrev pub opposite_of : Fraction → Fraction
opposite_of q = record { num = neg_ℤ q.num; less = q.less }

-- a numerator over the product of the two denominators
abbrev pub over_both : ℤ → Fraction → Fraction → Fraction
over_both n q r = record { num = n; less = q.less * den r + r.less }

-- sum, difference and product have that denominator, and aren't reduced
abbrev pub sum_of : Fraction → Fraction → Fraction
sum_of q r = over_both (cross q r +ℤ cross r q) q r

-- the sum with the opposite
abbrev pub difference_of : Fraction → Fraction → Fraction
difference_of q r = over_both (cross q r +ℤ neg_ℤ (cross r q)) q r

-- the product of the numerators
abbrev pub product_of : Fraction → Fraction → Fraction
product_of q r = over_both (q.num *ℤ r.num) q r

-- the product of k copies
abbrev pub power_of : Fraction → ℕ → Fraction
power_of q zero = whole (pos 1)
power_of q (suc k) = product_of (power_of q k) q

-- 1 over a numerator and a denominator; 0 where the numerator is 0
abbrev pub reciprocal_by : ℤ → ℕ → Fraction
reciprocal_by (pos zero) k = whole (pos 0)
reciprocal_by (pos (suc n)) k = record { num = pos (k + 1); less = n }
reciprocal_by (negsuc n) k = record { num = negsuc k; less = n }

-- 1 over the fraction; 0 for 0
abbrev pub reciprocal_of : Fraction → Fraction
reciprocal_of q = reciprocal_by q.num q.less

-- q over r; 0 where r is 0
abbrev pub quotient_of : Fraction → Fraction → Fraction
quotient_of q r = product_of q (reciprocal_of r)
