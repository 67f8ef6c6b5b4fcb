-- The lowest form of a polynomial over a whole number: there is one, and a division by the greatest divisor gives it.
-- Source: textbook, Euclid's lemma.
use Rattle.std.proofs.Common.{◌≡◌, ℕ, zero, suc, ◌+◌, ◌-◌, ◌*◌, ◌/◌, ◌<◌, ◌≤◌, ℤ, pos, ◌*ℤ◌, List, length, get_or, take, refl, sym, ap, ap₂, ◌∙◌, subst, arith, mul-one, inl, inr, unsigned_abs, Result, Ok, Err, IfOk}
use Prim.Native.Nat.{◌∣◌}
use Rattle.std.specs.Int.{IsGcd}
use Rattle.std.proofs.Math.Nat.{dvd_refl, dvd_trans, div-mul_cancel, dvd-mul_right, mul-dvd-mul_left, dvd_of_mul-dvd-mul_left, le_of_mul-le-mul_right, le_antisymm, eq-one_of_dvd-one, pos_of_dvd_of_pos}
use Rattle.std.proofs.Math.IntN.{*ℤ_comm}
use Rattle.std.proofs.lemmas.Bool.{cases_lt}
use Rattle.std.proofs.lemmas.Int.{ints, unsigned_abs-mul}
use Rattle.std.proofs.lemmas.List.{take_more, take_all}
use Rattle.std.proofs.lemmas.Nat.Gcd.{IsGcd-from_zero, IsGcd-from_sub, IsGcd-swap}
use Rattle.theory_meaning.specs.Limits.{bound}
use Rattle.theory_points.specs.declared.limit.Limit.{Limit}
use Rattle.theory_points.specs.declared.limit.Limit.TheVariants.{Wide, Memory}
use Rattle.theory_points.specs.Parts.{AreCoprime}
use Rattle.theory_points.proofs.CoprimeLemmas.{multiples, AreCoprime-by_gcd}
use Rattle.theory_polynomial.specs.Polynomial.{Monomial, coefficient_at, AreSame, IsPolynomial, IsWithinLimits, PassesLimit, DividesAll, scaled, height_of, greatest_exponent_of}
use Rattle.theory_polynomial.specs.RationalPolynomial.{Quotient, IsLowestOf, QuotientPasses, QuotientIsWithin, IsQuotientBeyond}
use Rattle.theory_polynomial.proofs.CoefficientLaws.{coefficient_at-scaled, same_trans, same_turned, scaled_same, scaled_twice, times_times}
use Rattle.theory_polynomial.proofs.FixedOrder.{polynomial_unique}
use Rattle.theory_polynomial.proofs.PrimitiveLaws.{without_factor, divides_multiple}
use Rattle.theory_poly.specs.Answers.{WideWhere}
use Rattle.theory_poly.specs.Kept.{IsGreatestWith, IsKeptQuotient, quotient_of}
use Rattle.theory_poly.proofs.StepLaws.{within_passes_none}
use Rattle.theory_poly.proofs.ContentLaws.{each-push, each-pop, each_weaker, each_from_all, ordered_of_scaled, exact_quotient}

-- two numbers have a greatest common divisor
record HasGcd (a b : ℕ) : Type 0 where
  divisor : ℕ
  is : IsGcd a b divisor

gcd_within : (n a b : ℕ) → a + b ≤ n → HasGcd a b
gcd_within n a zero h = record { divisor = a; is = IsGcd-from_zero a zero refl }
gcd_within n zero (suc b) h = record { divisor = suc b; is = IsGcd-swap (suc b) zero (suc b) (IsGcd-from_zero (suc b) zero refl) }
gcd_within zero (suc a) (suc b) h = absurd (omega arith)
gcd_within (suc n) (suc a) (suc b) h =
    elim (cases_lt (suc a) (suc b)) [
      | inl less ↦
          let rest = gcd_within n (suc b - suc a) (suc a) (omega arith) in
          record { divisor = rest.divisor; is = IsGcd-swap (suc b) (suc a) rest.divisor (IsGcd-from_sub (suc b) (suc a) rest.divisor (omega arith) rest.is) }
      | inr more ↦
          let rest = gcd_within n (suc a - suc b) (suc b) (omega arith) in
          record { divisor = rest.divisor; is = IsGcd-from_sub (suc a) (suc b) rest.divisor more rest.is }
    ]

-- without a common divisor, each of two numbers divides the other's multiple
without_common : (g a b m k : ℕ) → 0 < g → (a * g) * m ≡ (b * g) * k → a * m ≡ b * k
without_common g a b m k some h =
    le_antisymm (le_of_mul-le-mul_right {k = g} (omega (arith, h)) some) (le_of_mul-le-mul_right {k = g} (omega (arith, h)) some)

record DivideCrosswise (u v m k : ℕ) : Type 0 where
  first : u ∣ m
  second : v ∣ k

crosswise : (u v m k : ℕ) → AreCoprime v u → v * m ≡ u * k → DivideCrosswise u v m k
crosswise u v m k h e =
    let both = multiples v u m k h e in
    record {
      first = subst (λ n. u ∣ n) (sym both.first) (dvd-mul_right u both.times);
      second = subst (λ n. v ∣ n) (sym both.second) (dvd-mul_right v both.times);
    }

-- the cross products of two lowest forms
swapped_factors : (a b c : ℤ) → a *ℤ (b *ℤ c) ≡ b *ℤ (a *ℤ c)
swapped_factors a b c = times_times a b c ∙ ap (λ z. z *ℤ c) (*ℤ_comm a b) ∙ sym (times_times b a c)

cross_products : (qb rb sb : ℕ) (q r s : ℤ) → 0 < qb → pos qb *ℤ r ≡ pos rb *ℤ q → pos qb *ℤ s ≡ pos sb *ℤ q → pos sb *ℤ r ≡ pos rb *ℤ s
cross_products qb rb sb q r s some h k =
    without_factor qb (pos sb *ℤ r) (pos rb *ℤ s) some (omega (
      arith,
      ints,
      swapped_factors (pos qb) (pos sb) r,
      swapped_factors (pos qb) (pos rb) s,
      swapped_factors (pos sb) (pos rb) q,
      ap (λ z. pos sb *ℤ z) h,
      ap (λ z. pos rb *ℤ z) k,
    ))

forms_cross : (q r s : Quotient) → 0 < q.below → IsLowestOf q r → IsLowestOf q s → (e : List ℕ)
    → pos s.below *ℤ coefficient_at r.top e ≡ pos r.below *ℤ coefficient_at s.top e
forms_cross q r s some h k e =
    cross_products q.below r.below s.below (coefficient_at q.top e) (coefficient_at r.top e) (coefficient_at s.top e) some
    (sym (coefficient_at-scaled (pos q.below) r.top e) ∙ h.same.at e ∙ coefficient_at-scaled (pos r.below) q.top e)
    (sym (coefficient_at-scaled (pos q.below) s.top e) ∙ k.same.at e ∙ coefficient_at-scaled (pos s.below) q.top e)

sizes_cross : (q r s : Quotient) → 0 < q.below → IsLowestOf q r → IsLowestOf q s → (e : List ℕ)
    → s.below * unsigned_abs (coefficient_at r.top e) ≡ r.below * unsigned_abs (coefficient_at s.top e)
sizes_cross q r s some h k e =
    sym (unsigned_abs-mul (pos s.below) (coefficient_at r.top e)) ∙ ap unsigned_abs (forms_cross q r s some h k e)
    ∙ unsigned_abs-mul (pos r.below) (coefficient_at s.top e)

-- so both have the same number below
same_below : (q r s : Quotient) → 0 < q.below → IsLowestOf q r → IsLowestOf q s → r.below ≡ s.below
same_below q r s some h k =
    let small : r.below + s.below ≤ r.below + s.below = omega arith in
    let gcd = gcd_within (r.below + s.below) r.below s.below small in
    let g : ℕ = gcd.divisor in
    let positive : 0 < g = pos_of_dvd_of_pos gcd.is.1 k.lowest.positive in
    let u : ℕ = r.below / g in
    let v : ℕ = s.below / g in
    let first : u * g ≡ r.below = div-mul_cancel g gcd.is.0 in
    let second : v * g ≡ s.below = div-mul_cancel g gcd.is.1 in
    let coprime : AreCoprime v u = λ d p o. AreCoprime-by_gcd r.below s.below g k.lowest.positive gcd.is d o p in
    let across = λ (e : List ℕ). crosswise u v (unsigned_abs (coefficient_at r.top e)) (unsigned_abs (coefficient_at s.top e)) coprime
    (without_common g v u (unsigned_abs (coefficient_at r.top e)) (unsigned_abs (coefficient_at s.top e)) positive
    (ap (λ n. n * unsigned_abs (coefficient_at r.top e)) second ∙ sizes_cross q r s some h k e
    ∙ ap (λ n. n * unsigned_abs (coefficient_at s.top e)) (sym first))) in
    let u_is : u ≡ 1 = h.lowest.lowest u (subst (λ n. u ∣ n) first (dvd-mul_right u g)) (λ e. (across e).first) in
    let v_is : v ≡ 1 = k.lowest.lowest v (subst (λ n. v ∣ n) second (dvd-mul_right v g)) (λ e. (across e).second) in
    sym first ∙ ap (λ n. n * g) (u_is ∙ sym v_is) ∙ second

-- and are one quotient
pub lowest_unique : (q r s : Quotient) → 0 < q.below → IsLowestOf q r → IsLowestOf q s → r ≡ s
lowest_unique q r s some h k =
    let below = same_below q r s some h k in
    let same : AreSame r.top s.top = record {
      at = λ e.
          without_factor s.below (coefficient_at r.top e) (coefficient_at s.top e) k.lowest.positive
          (forms_cross q r s some h k e ∙ ap (λ n. pos n *ℤ coefficient_at s.top e) below);
    } in
    ap₂ quotient_of (polynomial_unique r.top s.top h.lowest.ordered k.lowest.ordered same) below

-- the greatest divisor of a number and the first terms
pub with_none : (start : ℕ) (ts : List Monomial) → IsGreatestWith start (take 0 ts) start
with_none start ts = record { first = dvd_refl start; divides = tt; greatest = λ d h all. h }

pub with_more : (start : ℕ) (ts : List Monomial) (i : ℕ) (d : Monomial) (g r : ℕ) → i < length ts → IsGreatestWith start (take i ts) g
    → IsGcd g (unsigned_abs (get_or ts i d).coefficient) r → IsGreatestWith start (take (i + 1) ts) r
with_more start ts i d g r h k gcd =
    subst (λ z. IsGreatestWith start z r) (sym (take_more ts i d h)) (record {
      first = dvd_trans r gcd.0 k.first;
      divides = each-push r (take i ts) (get_or ts i d) (each_weaker r g (take i ts) gcd.0 k.divides) gcd.1;
      greatest = λ e p all. let both = each-pop e (take i ts) (get_or ts i d) all in gcd.2 e (k.greatest e p both.0) both.1;
    })

pub with_all : (start : ℕ) (ts : List Monomial) (i g : ℕ) → length ts ≤ i → IsGreatestWith start (take i ts) g → IsGreatestWith start ts g
with_all start ts i g h k = subst (λ z. IsGreatestWith start z g) (take_all i ts h) k

-- a division by it gives the lowest form
positive_part : (g m b : ℕ) → 0 < b → g * m ≡ b → 0 < m
positive_part g zero b some h = absurd (omega (arith, h))
positive_part g (suc m) b some h = omega arith

positive_divisor : (g m b : ℕ) → 0 < b → g * m ≡ b → 0 < g
positive_divisor zero m b some h = absurd (omega (arith, h))
positive_divisor (suc g) m b some h = omega arith

pub lowest_by_division : (ts r : List Monomial) (b g m : ℕ) → IsPolynomial ts → 0 < b → IsGreatestWith b ts g → scaled (pos g) r ≡ ts → m ≡ b / g
    → IsLowestOf (quotient_of ts b) (quotient_of r m)
lowest_by_division ts r b g m ordered some h times is =
    let parts : g * m ≡ b = ap (λ n. g * n) is ∙ exact_quotient b g h.first in
    let positive = positive_divisor g m b some parts in
    record {
      lowest = record {
        ordered = ordered_of_scaled (pos g) r (subst IsPolynomial (sym times) ordered);
        positive = positive_part g m b some parts;
        lowest = λ d p all.
            let whole : g * d ∣ g = h.greatest (g * d) (subst (λ n. g * d ∣ n) parts (mul-dvd-mul_left d g p))
            (each_from_all (g * d) ts ordered (subst (DividesAll (g * d)) times (divides_multiple d g r all))) in
            eq-one_of_dvd-one (dvd_of_mul-dvd-mul_left d positive (subst (λ n. g * d ∣ n) (sym (mul-one g)) whole));
      };
      same = subst (λ z. AreSame (scaled (pos b) r) (scaled (pos m) z)) times
          (same_turned (scaled (pos m) (scaled (pos g) r)) (scaled (pos b) r)
          (subst (λ n. AreSame (scaled (pos m) (scaled (pos g) r)) (scaled (pos n) r)) (let e : m * g ≡ b = omega (arith, parts) in e)
          (scaled_twice (pos m) (pos g) r)));
    }

-- the lowest form is answered, and Wide where it passes a limit
pub quotient_within : (q : Quotient) → QuotientIsWithin q → ¬ QuotientPasses q
quotient_within q h (inl k) = within_passes_none q.top h.top k
quotient_within q h (inr k) = absurd (omega (arith, h.below, k))

pub not_quotient_beyond : (q r : Quotient) → 0 < q.below → IsLowestOf q r → ¬ QuotientPasses r → ¬ IsQuotientBeyond q
not_quotient_beyond q r some h fits b = fits (subst QuotientPasses (lowest_unique q b.0 r some b.1 h) b.2)

-- where what it was made of is the same
pub lowest_of_same : (ts us : List Monomial) (b : ℕ) (r : Quotient) → AreSame ts us → IsLowestOf (quotient_of ts b) r → IsLowestOf (quotient_of us b) r
lowest_of_same ts us b r h k = record {
  lowest = k.lowest;
  same = same_trans (scaled (pos b) r.top) (scaled (pos r.below) ts) (scaled (pos r.below) us) k.same (scaled_same (pos r.below) ts us h);
}

pub carries_lowest : (ts us : List Monomial) (b : ℕ) (result : Result Quotient Limit) → AreSame ts us → IfOk result (IsLowestOf (quotient_of ts b))
    → IfOk result (IsLowestOf (quotient_of us b))
carries_lowest ts us b (Ok r) h k = lowest_of_same ts us b r h k
carries_lowest ts us b (Err e) h k = tt

pub carries_quotient_wide : (ts us : List Monomial) (b : ℕ) (result : Result Quotient Limit) → AreSame ts us →
    WideWhere (IsQuotientBeyond (quotient_of ts b)) result
    → WideWhere (IsQuotientBeyond (quotient_of us b)) result
carries_quotient_wide ts us b (Ok r) h k = λ beyond. k (beyond.0, lowest_of_same us ts b beyond.0 (same_turned ts us h) beyond.1, beyond.2)
carries_quotient_wide ts us b (Err Wide) h k = (k.0, lowest_of_same ts us b k.0 h k.1, k.2)
carries_quotient_wide ts us b (Err Memory) h k = tt

pub within_where_none_passes : (r : List Monomial) → ¬ PassesLimit r → IsWithinLimits r
within_where_none_passes r h = record {
  terms = elim (cases_lt 128 (length r)) [ inl k ↦ absurd (h (inl k)) | inr k ↦ k ];
  exponents = elim (cases_lt 15 (greatest_exponent_of r)) [ inl k ↦ absurd (h (inr (inl k))) | inr k ↦ k ];
  coefficients = elim (cases_lt bound (height_of r)) [ inl k ↦ absurd (h (inr (inr k))) | inr k ↦ k ];
}

-- a quotient that was made of a polynomial that fits and a number below that fits
pub kept_quotient : (q : Quotient) (r top : List Monomial) (m : ℕ) → IsLowestOf q (quotient_of r m) → top ≡ r → ¬ PassesLimit r → m ≤ bound
    → IsKeptQuotient (quotient_of top m)
kept_quotient q r top m h is fits small = subst (λ z. IsKeptQuotient (quotient_of z m)) (sym is) (record {
  lowest = h.lowest;
  within = record { top = within_where_none_passes r fits; below = small };
})

pub kept_is_no_passing : (q : Quotient) → IsKeptQuotient q → ¬ QuotientPasses q
kept_is_no_passing q h = quotient_within q h.within
