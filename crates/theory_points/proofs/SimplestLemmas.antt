-- Continued fractions over whole numbers at least 0: how the simplest ratio between two passes through a turn.
use Rattle.std.proofs.Common.{◌≡◌, ℕ, zero, suc, ◌+◌, ◌*◌, ◌-◌, ◌/◌, ◌%◌, ◌<◌, ◌≤◌, ⊎_elim, ap, arith}
use Prim.Native.Nat.{◌∣◌}
use Rattle.std.proofs.lemmas.Bool.{cases_lt}
use Rattle.std.proofs.lemmas.Nat.{div-add-mod', mod_below}
use Rattle.std.proofs.Math.Nat.{div-mul_cancel, lt_of_mul-lt-mul_right, le-mul_of_pos_right, mul-le-mul_left}
use Rattle.theory_points.specs.Simplest.{LiesBetween, IsLeastBetween}

-- a product above a number has no factor 0
factor_is_positive : (c s p : ℕ) → p < c * s → 0 < s
factor_is_positive c zero p below = omega arith
factor_is_positive c (suc s) p below = omega arith

-- a ratio below another has a denominator above 0
pub bottom_is_positive : {a b c d n m : ℕ} → IsLeastBetween a b c d n m → 0 < m
bottom_is_positive {c = c} {d = d} {n = n} {m = m} found = factor_is_positive c m (n * d) found.between.under

-- what makes nothing greater as a factor is at most 1
at_most_one : (k g : ℕ) → 0 < g → 0 < k * g → k * g ≤ k → g ≡ 1
at_most_one k g some positive least =
    ⊎_elim (λ small. omega arith) (λ (big : 2 ≤ g). absurd (omega (arith, mul-le-mul_left k big))) (cases_lt g 2)

-- the whole part of the lower end is below the upper end
pub whole_is_below : (a b c d w r : ℕ) → a * d < c * b → w * b + r ≡ a → w * d < c
whole_is_below a b c d w r apart low =
    lt_of_mul-lt-mul_right b {m = w * d} {n = c} (omega (arith, ap (λ (x : ℕ). x * d) low))

-- nothing between has a numerator below the next whole number
next_whole_at_most : (a b c d w k r s : ℕ) → w * b + k ≡ a → LiesBetween a b c d r s → w < r
next_whole_at_most a b c d w k r s low between =
    let some : 0 < s = factor_is_positive c s (r * d) between.under in
    lt_of_mul-lt-mul_right b {m = w} {n = r} (omega (arith, le-mul_of_pos_right a some))

-- where the next whole number is below the upper end, it is the simplest
pub next_whole_is_least : (a b c d w r : ℕ) → w * b + r ≡ a → r < b → w * d + d < c → IsLeastBetween a b c d (w + 1) 1
next_whole_is_least a b c d w r low within room = record {
  between = record { above = omega arith; under = omega arith };
  least = λ p q between.
      let high : w < p = next_whole_at_most a b c d w r p q low between in
      let some : 0 < q = factor_is_positive c q (p * d) between.under in
      (omega arith, omega arith);
}

-- else the ends without the whole part, turned over, lie apart
pub turned_apart : (a b c d w r e : ℕ) → a * d < c * b → w * b + r ≡ a → w * d + e ≡ c → d * r < b * e
turned_apart a b c d w r e apart low high = omega (arith, ap (λ (x : ℕ). x * d) low, ap (λ (x : ℕ). x * b) high)

-- what lies between the ends lies, without the whole part and turned over, between the turned ends
turned_between : (a b c d w r e p q s : ℕ) → w * b + r ≡ a → w * d + e ≡ c → s + w * q ≡ p → LiesBetween a b c d p q → LiesBetween d e b r q s
turned_between a b c d w r e p q s low high parts between = record {
  above = omega (arith, between.under, ap (λ (x : ℕ). x * d) parts, ap (λ (x : ℕ). x * q) high);
  under = omega (arith, between.above, ap (λ (x : ℕ). x * b) parts, ap (λ (x : ℕ). x * q) low);
}

-- the simplest between the turned ends has the least parts when turned back
turned_at_most : (a b c d w r e n m p q : ℕ) → w * b + r ≡ a → w * d + e ≡ c → IsLeastBetween d e b r n m → LiesBetween a b c d p q → (w * n + m ≤ p) × (n ≤ q)
turned_at_most a b c d w r e n m p q low high inner between =
    let whole : w * q < p = whole_is_below a b p q w r between.above low in
    let parts : (p - w * q) + w * q ≡ p = omega arith in
    let least = inner.least q (p - w * q) (turned_between a b c d w r e p q (p - w * q) low high parts between) in
    (omega (arith, mul-le-mul_left w least.0), least.0)

-- the simplest between the turned ends, turned back with the whole part added, is the simplest
pub turned_is_least : (a b c d w r e n m : ℕ) → w * b + r ≡ a → w * d + e ≡ c → IsLeastBetween d e b r n m → IsLeastBetween a b c d (w * n + m) n
turned_is_least a b c d w r e n m low high inner = record {
  between = record {
    above = omega (arith, inner.between.under, ap (λ (x : ℕ). x * n) low);
    under = omega (arith, inner.between.above, ap (λ (x : ℕ). x * n) high);
  };
  least = λ p q between. turned_at_most a b c d w r e n m p q low high inner between;
}

-- the parts are at most the sums of the ends' parts
pub within_sums : {a b c d n m : ℕ} → IsLeastBetween a b c d n m → a * d < c * b → (n ≤ a + c) × (m ≤ b + d)
within_sums {a = a} {b = b} {c = c} {d = d} found apart = found.least (a + c) (b + d) (record { above = omega arith; under = omega arith })

-- the same at the quotient and the remainder of the lower end
pub quotient_is_below : (a b c d : ℕ) → a * d < c * b → a / b * d < c
quotient_is_below a b c d apart = whole_is_below a b c d (a / b) (a % b) apart (div-add-mod' a b)

-- what a turn leaves of the ends lies apart again, and is not greater than the ends were
pub turn_goes_on : (a b c d : ℕ) → a * d < c * b → c ≤ a / b * d + d →
    (d * (a % b) < b * (c - a / b * d)) × (c - a / b * d ≤ d) × (a % b < b)
turn_goes_on a b c d apart near =
    let some : 0 < b = factor_is_positive c b (a * d) apart in
    let low : a / b * b + a % b ≡ a = div-add-mod' a b in
    let high : a / b * d + (c - a / b * d) ≡ c = omega (arith, quotient_is_below a b c d apart) in
    (turned_apart a b c d (a / b) (a % b) (c - a / b * d) apart low high, omega (arith, high), mod_below a b some)

-- the simplest after a turn gives the simplest before it
pub turn_is_least : (a b c d n m : ℕ) → a * d < c * b → IsLeastBetween d (c - a / b * d) b (a % b) n m →
    IsLeastBetween a b c d (a / b * n + m) n
turn_is_least a b c d n m apart inner =
    let high : a / b * d + (c - a / b * d) ≡ c = omega (arith, quotient_is_below a b c d apart) in
    turned_is_least a b c d (a / b) (a % b) (c - a / b * d) n m (div-add-mod' a b) high inner

-- so what is computed from it is within the sum of the ends' numerators
pub turn_within_sum : (a b c d n m : ℕ) → a * d < c * b → IsLeastBetween d (c - a / b * d) b (a % b) n m →
    a / b * n + m ≤ a + c
turn_within_sum a b c d n m apart inner =
    (within_sums (turn_is_least a b c d n m apart inner) apart).0

-- a common divisor of the simplest ratio's parts divides out, so it is 1
pub least_is_reduced : {a b c d n m : ℕ} (g : ℕ) → IsLeastBetween a b c d n m → g ∣ n → g ∣ m → g ≡ 1
least_is_reduced {a = a} {b = b} {c = c} {d = d} {n = n} {m = m} g found top bottom =
    let tops : n / g * g ≡ n = div-mul_cancel g top in
    let bottoms : m / g * g ≡ m = div-mul_cancel g bottom in
    let some : 0 < m = bottom_is_positive found in
    let divisor : 0 < g = factor_is_positive (m / g) g 0 (omega arith) in
    let above : a * (m / g) * g < n / g * b * g = omega (arith, found.between.above, ap (λ (x : ℕ). a * x) bottoms, ap (λ (x : ℕ). x * b) tops) in
    let under : n / g * d * g < c * (m / g) * g = omega (arith, found.between.under, ap (λ (x : ℕ). c * x) bottoms, ap (λ (x : ℕ). x * d) tops) in
    let least = found.least (n / g) (m / g) (record {
      above = lt_of_mul-lt-mul_right g above;
      under = lt_of_mul-lt-mul_right g under;
    }) in
    at_most_one (m / g) g divisor (omega arith) (omega (arith, least))
