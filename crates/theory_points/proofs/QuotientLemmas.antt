-- Quotients of two whole numbers, by their lowest terms. Source: textbook.
use Rattle.std.proofs.Common.{◌≡◌, ◌≢◌, ℕ, zero, suc, ◌+◌, ◌*◌, ◌/◌, ◌<◌, ◌≤◌, ◌⊎◌, int_lt, ℤ, pos, ◌*ℤ◌, unsigned_abs, sym, ap, subst, subst₂, ⊎_elim, le_antisymm, le_of_mul-le-mul_right, mul_comm, Option, Some, None, MatchOption, ◌∙◌, arith}
use Rattle.std.proofs.lemmas.Int.{ints}
use Rattle.std.proofs.Math.Nat.{div-mul_cancel}
use Rattle.std.specs.Int.{IsGcd}
use Rattle.theory_meaning.specs.Fraction.{Fraction, den, over_both, IsSame}
use Rattle.theory_meaning.specs.Limits.{bound, IsWide}
use Rattle.theory_points.specs.Parts.{AreLowest, HasBoundedParts, parted, signed, IsQuotient, IsWideQuotient, less_and_one}
use Rattle.theory_points.proofs.CoprimeLemmas.{multiples, AreCoprime-by_gcd}
use Rattle.theory_points.proofs.SignLemmas.{signs_differ, signed_size, size_above_zero, sizes_of_products, signed-cross}

-- a factor of a number above 0 is above 0
factor_above_zero : (b g n : ℕ) → 0 < n → n ≡ b * g → 0 < b
factor_above_zero zero g n some e = omega arith
factor_above_zero (suc b) g n some e = omega arith

-- a division of both parts by their greatest common divisor
pub AreLowest-by_gcd : (top bottom g : ℕ) → 0 < bottom → IsGcd top bottom g → AreLowest top bottom (top / g) (bottom / g)
AreLowest-by_gcd top bottom g some gcd =
    let second = sym (div-mul_cancel g gcd.1) in
    record {
      times = g;
      first = sym (div-mul_cancel g gcd.0);
      second = second;
      positive = factor_above_zero (bottom / g) g bottom some second;
      coprime = AreCoprime-by_gcd top bottom g some gcd;
    }

-- a fraction of the lowest parts is the quotient
quotient_by_parts : (n d : ℤ) (a b : ℕ) → d ≢ pos 0 → AreLowest (unsigned_abs n) (unsigned_abs d) a b → IsQuotient n d (parted (signed (signs_differ n d) a) b)
quotient_by_parts n d a b divides lowest =
    let s = int_lt n (pos 0) in
    let t = int_lt d (pos 0) in
    let top : n ≡ signed s (a * lowest.times) = subst (λ x. n ≡ signed s x) lowest.first (signed_size n) in
    let bottom : d ≡ signed t (b * lowest.times) = subst (λ x. d ≡ signed t x) lowest.second (signed_size d) in
    record {
      divides = divides;
      equal = ap (λ x. signed (signs_differ n d) a *ℤ x) bottom
          ∙ signed-cross s t a b lowest.times
          ∙ ap (λ x. x *ℤ pos b) (sym top)
          ∙ ap (λ x. n *ℤ pos x) (sym (less_and_one b lowest.positive));
    }

-- a common factor may be left out
without_factor : (a b m k g : ℕ) → 0 < g → m * (b * g) ≡ (a * g) * k → a * k ≡ b * m
without_factor a b m k g some h =
    le_antisymm (le_of_mul-le-mul_right {k = g} (omega arith) some) (le_of_mul-le-mul_right {k = g} (omega arith) some)

-- no multiple of what passes the bound is within it
multiple_passes : (a b m k t : ℕ) → (bound < a) ⊎ (bound < b) → m ≤ bound → k ≤ bound → m ≡ a * t → k ≡ b * t → 0 < k → ⊥
multiple_passes a b m k zero passes top bottom first second some = omega arith
multiple_passes a b m k (suc t) passes top bottom first second some =
    let le_top : a ≤ a * suc t = omega arith in
    let le_bottom : b ≤ b * suc t = omega arith in
    ⊎_elim (λ (p : bound < a). absurd (omega arith)) (λ (p : bound < b). absurd (omega arith)) passes

-- no fraction within the bound is the quotient where a lowest part passes it
wide_by_parts : (n d : ℤ) (a b : ℕ) → AreLowest (unsigned_abs n) (unsigned_abs d) a b → (bound < a) ⊎ (bound < b) → IsWideQuotient n d
wide_by_parts n d a b lowest passes q within quotient =
    let size = unsigned_abs q.num in
    let some : 0 < lowest.times = factor_above_zero lowest.times b (unsigned_abs d) (size_above_zero d quotient.divides)
    (lowest.second ∙ mul_comm b lowest.times) in
    let sizes = sizes_of_products q.num d n (pos (den q)) quotient.equal in
    let over_lowest : a * den q ≡ b * size = without_factor a b size (den q) lowest.times some
    (subst₂ (λ x y. size * x ≡ y * den q) lowest.second lowest.first sizes) in
    let both = multiples a b (den q) size lowest.coprime over_lowest in
    multiple_passes a b size (den q) both.times passes within.top within.bottom both.second both.first (omega arith)

-- the fraction that is the quotient, or none where no fraction within the bound is
abbrev pub IsBoundedQuotient : ℤ → ℤ → Option Fraction → Type 0
IsBoundedQuotient n d found = MatchOption found (IsWideQuotient n d) (IsQuotient n d)

-- the fraction that is the same, or none where no fraction within the bound is
abbrev pub IsBounded : Fraction → Option Fraction → Type 0
IsBounded s found = MatchOption found (IsWide s) (λ f. IsSame f s)

-- lowest parts with the sign of the quotient are the quotient
bounded_by_parts : (n d : ℤ) (a b : ℕ) (found : Option Fraction) → d ≢ pos 0 → AreLowest (unsigned_abs n) (unsigned_abs d) a b
    → HasBoundedParts (signs_differ n d) a b found → IsBoundedQuotient n d found
bounded_by_parts n d a b None divides lowest passes = wide_by_parts n d a b lowest passes
bounded_by_parts n d a b (Some f) divides lowest is = subst (IsQuotient n d) (sym is) (quotient_by_parts n d a b divides lowest)

-- the same for numbers m and e that are n and d
pub bounded_quotient : (n d m e : ℤ) (top bottom a b : ℕ) (found : Option Fraction) → m ≡ n → e ≡ d → d ≢ pos 0
    → top ≡ unsigned_abs m → bottom ≡ unsigned_abs e → AreLowest top bottom a b
    → HasBoundedParts (signs_differ m e) a b found → IsBoundedQuotient n d found
bounded_quotient n d m e top bottom a b found same_n same_d divides top_is bottom_is lowest parts =
    bounded_by_parts n d a b found divides
    (subst₂ (λ x y. AreLowest x y a b) (top_is ∙ ap unsigned_abs same_n) (bottom_is ∙ ap unsigned_abs same_d) lowest)
    (subst₂ (λ x y. HasBoundedParts (signs_differ x y) a b found) same_n same_d parts)

-- a denominator isn't 0
pos_suc-zero : (n : ℕ) → pos (n + 1) ≡ pos 0 → ⊥
pos_suc-zero n e = omega (arith, ints)

-- a quotient of a fraction's parts is the fraction
bounded_by_quotient : (n d : ℤ) (s : Fraction) (found : Option Fraction) → n ≡ s.num → d ≡ pos (den s)
    → IsBoundedQuotient n d found → IsBounded s found
bounded_by_quotient n d s None top bottom wide = λ r within same. wide r within (record {
  divides = λ zero_d. absurd (pos_suc-zero s.less (sym bottom ∙ zero_d));
  equal = ap (λ x. r.num *ℤ x) bottom ∙ same ∙ ap (λ x. x *ℤ pos (den r)) (sym top);
})
bounded_by_quotient n d s (Some f) top bottom quotient =
    ap (λ x. f.num *ℤ x) (sym bottom) ∙ quotient.equal ∙ ap (λ x. x *ℤ pos (den f)) top

-- the product of two denominators
den-over_both : (n : ℤ) (q r : Fraction) → den q * den r ≡ den (over_both n q r)
den-over_both n q r = omega arith

-- a quotient over the product of two denominators
pub bounded_over_both : (n d m : ℤ) (q r : Fraction) (found : Option Fraction) → n ≡ m → d ≡ pos (den q * den r)
    → IsBoundedQuotient n d found → IsBounded (over_both m q r) found
bounded_over_both n d m q r found top bottom quotient =
    bounded_by_quotient n d (over_both m q r) found top (bottom ∙ ap pos (den-over_both m q r)) quotient
