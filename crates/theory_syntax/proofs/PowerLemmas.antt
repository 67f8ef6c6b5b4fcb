-- Powers of a fraction in lowest terms are in lowest terms, so a lower power passes the bound only where a higher one does.
-- Source: textbook.
use Rattle.std.proofs.Common.{◌≡◌, ℕ, zero, suc, ◌*◌, ◌/◌, ◌^◌, ◌<◌, ◌≤◌, pos, ◌*ℤ◌, unsigned_abs, sym, ap, subst, subst₂, ◌∙◌, arith}
use Prim.Native.Nat.{◌∣◌}
use Rattle.std.proofs.lemmas.Nat.Gcd.{dvd_trans}
use Rattle.std.proofs.Math.Nat.{dvd-mul_right, eq-one_of_dvd-one, mul-div_cancel', pow-suc, pow-zero, pow-le-pow_right}
use Rattle.std.proofs.lemmas.Int.{unsigned_abs-mul}
use Rattle.theory_meaning.specs.Fraction.{Fraction, den, IsSame, product_of, power_of}
use Rattle.theory_meaning.specs.Limits.{bound, IsWithin, IsWide}
use Rattle.theory_meaning.proofs.ValueLaws.{den-over_both, product_respects}
use Rattle.theory_meaning.proofs.OrderLaws.{same_itself, same_turned}
use Rattle.theory_points.specs.Parts.{AreCoprime, IsKept}
use Rattle.theory_points.proofs.CoprimeLemmas.{multiples}
use Rattle.theory_points.proofs.SignLemmas.{sizes_of_products}

-- the parts of a power are the powers of the parts
top_of_power : (q : Fraction) (k : ℕ) → unsigned_abs (power_of q k).num ≡ unsigned_abs q.num ^ k
top_of_power q zero = sym (pow-zero (unsigned_abs q.num))
top_of_power q (suc k) =
    unsigned_abs-mul (power_of q k).num q.num ∙ ap (λ n. n * unsigned_abs q.num) (top_of_power q k) ∙ sym (pow-suc (unsigned_abs q.num) k)

bottom_of_power : (q : Fraction) (k : ℕ) → den (power_of q k) ≡ den q ^ k
bottom_of_power q zero = sym (pow-zero (den q))
bottom_of_power q (suc k) =
    den-over_both ((power_of q k).num *ℤ q.num) (power_of q k) q ∙ ap (λ n. n * den q) (bottom_of_power q k) ∙ sym (pow-suc (den q) k)

-- Euclid's lemma: what has no divisor with a and divides a product with a divides the other factor
other_factor : (a d x : ℕ) → AreCoprime a d → d ∣ a * x → d ∣ x
other_factor a d x coprime divides =
    let m = multiples a d x (a * x / d) coprime (sym (mul-div_cancel' d divides)) in
    subst (λ n. d ∣ n) (sym m.first) (dvd-mul_right d m.times)

-- a power of a has no divisor with b where a has none
AreCoprime-power : (a b k : ℕ) → AreCoprime a b → AreCoprime (a ^ k) b
AreCoprime-power a b zero coprime d p q = eq-one_of_dvd-one (subst (λ n. d ∣ n) (pow-zero a) p)
AreCoprime-power a b (suc k) coprime d p q =
    let apart : AreCoprime a d = λ e in_a in_d. coprime e in_a (dvd_trans e in_d q) in
    let in_product : d ∣ a * a ^ k = subst (λ n. d ∣ n) (pow-suc a k ∙ omega arith) p in
    AreCoprime-power a b k coprime d (other_factor a d (a ^ k) apart in_product) q

AreCoprime-turned : (a b : ℕ) → AreCoprime a b → AreCoprime b a
AreCoprime-turned a b coprime d p q = coprime d q p

AreCoprime-powers : (a b k : ℕ) → AreCoprime a b → AreCoprime (a ^ k) (b ^ k)
AreCoprime-powers a b k coprime =
    AreCoprime-power a (b ^ k) k (AreCoprime-turned (b ^ k) a (AreCoprime-power b a k (AreCoprime-turned a b coprime)))

-- a factor isn't above a product with something
factor_below : (a b t m : ℕ) → a ≡ b * t → 0 < a → a ≤ m → b ≤ m
factor_below a b zero m h some le = absurd (omega (arith, h, some))
factor_below a b (suc t) m h some le = omega (arith, h, le)

-- and a multiple of what isn't 0 isn't below it
multiple_below : (a b c t m : ℕ) → c ≡ b * t → 0 < c → m ≡ a * t → m ≤ bound → a ≤ bound
multiple_below a b c zero m h some k le = absurd (omega (arith, h, some))
multiple_below a b c (suc t) m h some k le = omega (arith, k, le)

-- parts in lowest terms are within the bound where those of an equal fraction are
pub within_of_same : (q r : Fraction) → AreCoprime (unsigned_abs q.num) (den q) → IsWithin r → IsSame r q → IsWithin q
within_of_same q r coprime within same =
    let sizes = sizes_of_products r.num (pos (den q)) q.num (pos (den r)) same in
    let both = multiples (unsigned_abs q.num) (den q) (den r) (unsigned_abs r.num) coprime (sym sizes ∙ omega arith) in
    record {
      top = multiple_below (unsigned_abs q.num) (den q) (den r) both.times (unsigned_abs r.num) both.first (omega arith) both.second within.top;
      bottom = factor_below (den r) (den q) both.times bound both.first (omega arith) within.bottom;
    }

-- a lower power of a number isn't above the bound where a higher one isn't
power_below : (a i k : ℕ) → i ≤ k → a ^ k ≤ bound → a ^ i ≤ bound
power_below zero zero k le h = omega arith
power_below zero (suc i) k le h = omega (arith, pow-suc 0 i)
power_below (suc a) i k le h = omega (arith, h, pow-le-pow_right {n = suc a} (omega arith) le)

-- a power of a fraction in lowest terms is within the bound where a higher one is an equal fraction within it
pub within_of_power : (q r : Fraction) (i k : ℕ) → IsKept q → i ≤ k → IsWithin r → IsSame r (power_of q k) → IsWithin (power_of q i)
within_of_power q r i k kept le within same =
    let coprime : AreCoprime (unsigned_abs (power_of q k).num) (den (power_of q k)) =
    subst₂ AreCoprime (sym (top_of_power q k)) (sym (bottom_of_power q k)) (AreCoprime-powers (unsigned_abs q.num) (den q) k kept.reduced) in
    let high = within_of_same (power_of q k) r coprime within same in
    let top = power_below (unsigned_abs q.num) i k le (subst (λ n. n ≤ bound) (top_of_power q k) high.top) in
    let bottom = power_below (den q) i k le (subst (λ n. n ≤ bound) (bottom_of_power q k) high.bottom) in
    record {
      top = subst (λ n. n ≤ bound) (sym (top_of_power q i)) top;
      bottom = subst (λ n. n ≤ bound) (sym (bottom_of_power q i)) bottom;
    }

-- so where the next product passes the bound, each power from there on does
pub wide_power : (q all : Fraction) (i k : ℕ) → IsKept q → IsSame all (power_of q i) → i < k → IsWide (product_of all q) → IsWide (power_of q k)
wide_power q all i k kept same below wide r within same_r =
    let low = within_of_power q r (suc i) k kept below within same_r in
    wide (power_of q (suc i)) low (product_respects (power_of q i) all q q (same_turned all (power_of q i) same) (same_itself q))
