-- The steps of a restriction, one after the other.
use Rattle.std.proofs.Common.{◌≡◌, ℕ, suc, ◌+◌, ◌-◌, ◌^◌, ◌<◌, ◌≤◌, ℤ, pos, negsuc, ◌*ℤ◌, ◌≤ℤ◌, false, List, refl, sym, ap, ap₂, ◌∙◌, subst, subst₂, arith, inl, inr, ⊎_elim, unsigned_abs, Err}
use Rattle.std.proofs.lemmas.Bool.{cases_lt}
use Rattle.std.proofs.lemmas.Int.{ints}
use Rattle.std.proofs.Math.Nat.{pow-suc, pow-zero}
use Rattle.theory_meaning.specs.Fraction.{Fraction, den}
use Rattle.theory_meaning.specs.Limits.{bound}
use Rattle.theory_points.specs.declared.limit.Limit.{Limit}
use Rattle.theory_points.specs.declared.limit.Limit.TheVariants.{Wide, Memory}
use Rattle.theory_polynomial.specs.Polynomial.{Monomial, AreSame, IsPolynomialOf, IsPrimitiveOf, IsWithinLimits, PassesLimit, IsBeyond, scaled, sum_of, degree_in}
use Rattle.theory_polynomial.specs.PolynomialValue.{part_of, restriction_step, IsWideRestriction}
use Rattle.theory_polynomial.proofs.CoefficientLaws.{same_itself, same_turned, sum_same, scaled_same}
use Rattle.theory_polynomial.proofs.PrimitiveLaws.{primitive_of_same}
use Rattle.theory_poly.specs.Answers.{WideWhere}
use Rattle.theory_poly.specs.Kept.{IsKept, IsGathered, IsNextStep, PassesInStep, IsSignedForm, IsPrimitiveForm}
use Rattle.theory_poly.proofs.AnswerLaws.{the_polynomial}
use Rattle.theory_poly.proofs.ScaleLaws.{polynomial_of_same}
use Rattle.theory_poly.proofs.PartLaws.{kept_part}
use Rattle.theory_poly.proofs.ContentLaws.{form_is_primitive}
use Rattle.theory_poly.proofs.CanonicalLaws.{scaled_once_is}

-- what was gathered is the next step
pub gathered_step : (q : Fraction) (sum : List Monomial) (power : ℤ) (next : List Monomial) (n m : ℤ) (a b all : List Monomial) (k : ℕ)
    → n ≡ q.num → m ≡ power *ℤ pos (den q) → a ≡ sum → b ≡ next → IsGathered (sum_of (scaled n a) (scaled m b)) k all
    → IsPolynomialOf (sum_of (scaled q.num sum) (scaled (power *ℤ pos (den q)) next)) all
gathered_step q sum power next n m a b all k is_n is_m is_a is_b g =
    subst₂ (λ x y. IsPolynomialOf (sum_of x y) all) (ap₂ scaled is_n is_a) (ap₂ scaled is_m is_b) g.ordered

pub not_below_zero : (power : ℤ) (d : ℕ) → pos 0 ≤ℤ power → pos 0 ≤ℤ (power *ℤ pos d)
not_below_zero (pos n) d h = omega (arith, ints)
not_below_zero (negsuc n) d h = absurd (omega (arith, ints, h))

-- a limit that another fact passes
pub limit_weaker : (P Q : Type 0) (limit : Limit) → (P → Q) → WideWhere {T = ℕ} P (Err limit) → WideWhere {T = ℕ} Q (Err limit)
limit_weaker P Q Wide f h = f h
limit_weaker P Q Memory f h = tt

-- what is within the limits passes none
pub within_passes_none : (r : List Monomial) → IsWithinLimits r → ¬ PassesLimit r
within_passes_none r h (inl k) = absurd (omega (arith, h.terms, k))
within_passes_none r h (inr (inl k)) = absurd (omega (arith, h.exponents, k))
within_passes_none r h (inr (inr k)) = absurd (omega (arith, h.coefficients, k))

kept_not_beyond : (r : List Monomial) → IsKept r → ¬ IsBeyond r
kept_not_beyond r h b =
    within_passes_none r h.within (subst PassesLimit (the_polynomial r b.0 r b.1 (record { ordered = h.ordered; same = same_itself r })) b.2)

-- the first step
pub first_step : (x d : ℕ) (q : Fraction) (ts sum : List Monomial) → d ≡ degree_in x ts → sum ≡ part_of x d ts → IsKept ts
    → IsPolynomialOf (part_of x (degree_in x ts) ts) sum
first_step x d q ts sum is_d is h =
    let part = is ∙ ap (λ k. part_of x k ts) is_d in
    record { ordered = (kept_part x (degree_in x ts) ts sum part h).ordered; same = subst (AreSame sum) part (same_itself sum) }

pub first_power_fits : (d j : ℕ) → j ≤ 0 → d ^ j ≤ bound
first_power_fits d j h =
    let none : j ≡ 0 = omega arith in
    let one : 1 ≤ bound = omega arith in
    subst (λ n. n ≤ bound) (sym (ap (λ k. d ^ k) none ∙ pow-zero d)) one

pub first_step_fits : (x : ℕ) (q : Fraction) (ts : List Monomial) (j : ℕ) → j ≤ 0 → IsKept ts → ¬ IsBeyond (restriction_step x q ts j)
first_step_fits x q ts j h kept =
    let none : j ≡ 0 = omega arith in
    subst (λ k. ¬ IsBeyond (restriction_step x q ts k)) (sym none)
    (kept_not_beyond (part_of x (degree_in x ts) ts) (kept_part x (degree_in x ts) ts (part_of x (degree_in x ts) ts) refl kept))

-- the next step as it was made is the step as it is written
same_step : (x d : ℕ) (q : Fraction) (ts sum next : List Monomial) (i : ℕ) (power : ℤ) → d ≡ degree_in x ts → next ≡ part_of x (d - (i + 1)) ts
    → power ≡ pos (den q ^ i) → IsPolynomialOf (restriction_step x q ts i) sum
    → AreSame (sum_of (scaled q.num sum) (scaled (power *ℤ pos (den q)) next)) (restriction_step x q ts (suc i))
same_step x d q ts sum next i power is_d is_next is_power h =
    let one_more : i + 1 ≡ suc i = omega arith in
    let raised : power *ℤ pos (den q) ≡ pos (den q ^ suc i) = ap (λ z. z *ℤ pos (den q)) is_power ∙ ap pos (sym (pow-suc (den q) i)) in
    let part : next ≡ part_of x (degree_in x ts - suc i) ts = is_next ∙ ap₂ (λ (a b : ℕ). part_of x (a - b) ts) is_d one_more in
    subst (λ z. AreSame (sum_of (scaled q.num sum) z) (restriction_step x q ts (suc i))) (sym (ap₂ scaled raised part))
    (sum_same (scaled q.num sum) (scaled (pos (den q ^ suc i)) (part_of x (degree_in x ts - suc i) ts)) (scaled q.num (restriction_step x q ts i))
    (scaled (pos (den q ^ suc i)) (part_of x (degree_in x ts - suc i) ts))
    (scaled_same q.num sum (restriction_step x q ts i) h.same) (same_itself (scaled (pos (den q ^ suc i)) (part_of x (degree_in x ts - suc i) ts))))

beyond_same : (ts us : List Monomial) → AreSame ts us → IsBeyond ts → IsBeyond us
beyond_same ts us h b = (b.0, polynomial_of_same ts us b.0 h b.1, b.2)

-- a step that passes a limit makes the whole wide
pub step_is_wide : (x d : ℕ) (q : Fraction) (ts sum next : List Monomial) (i : ℕ) (power : ℤ) → d ≡ degree_in x ts → i < d → next ≡ part_of x (d - (i + 1)) ts
    → power ≡ pos (den q ^ i) → IsPolynomialOf (restriction_step x q ts i) sum → PassesInStep q sum power next → IsWideRestriction x q ts
step_is_wide x d q ts sum next i power is_d less is_next is_power h (inl over) =
    let raised : power *ℤ pos (den q) ≡ pos (den q ^ suc i) = ap (λ z. z *ℤ pos (den q)) is_power ∙ ap pos (sym (pow-suc (den q) i)) in
    (suc i, omega (arith, is_d, less), inl (subst (λ z. bound < unsigned_abs z) raised over))
step_is_wide x d q ts sum next i power is_d less is_next is_power h (inr beyond) = (
  suc i,
  omega (arith, is_d, less),
  inr (beyond_same _ (restriction_step x q ts (suc i))
      (same_step x d q ts sum next i power is_d is_next is_power h) beyond),
)

-- a step that fits
pub step_made : (x d : ℕ) (q : Fraction) (ts sum next found : List Monomial) (i : ℕ) (power raised : ℤ) → d ≡ degree_in x ts → next ≡ part_of x (d - (i + 1)) ts
    → power ≡ pos (den q ^ i) → IsPolynomialOf (restriction_step x q ts i) sum → IsNextStep q sum power next found raised
    → IsPolynomialOf (restriction_step x q ts (i + 1)) found
step_made x d q ts sum next found i power raised is_d is_next is_power h made =
    let one_more : suc i ≡ i + 1 = omega arith in
    subst (λ k. IsPolynomialOf (restriction_step x q ts k) found) one_more
    (polynomial_of_same _ (restriction_step x q ts (suc i)) found (same_step x d q ts sum next i power is_d is_next is_power h) made.polynomial)

pub power_made : (q : Fraction) (i : ℕ) (power raised : ℤ) → power ≡ pos (den q ^ i) → raised ≡ power *ℤ pos (den q) → raised ≡ pos (den q ^ (i + 1))
power_made q i power raised is_power is =
    let one_more : suc i ≡ i + 1 = omega arith in
    is ∙ ap (λ z. z *ℤ pos (den q)) is_power ∙ ap pos (sym (pow-suc (den q) i)) ∙ ap (λ k. pos (den q ^ k)) one_more

pub powers_fit_more : (d i : ℕ) → ((j : ℕ) → j ≤ i → d ^ j ≤ bound) → (raised : ℤ) → raised ≡ pos (d ^ (i + 1)) → unsigned_abs raised ≤ bound → (j : ℕ) →
    j ≤ i + 1 → d ^ j ≤ bound
powers_fit_more d i h raised is small j below =
    elim (cases_lt i j) [
      | inl more ↦ let last : j ≡ i + 1 = omega arith in
          subst (λ k. d ^ k ≤ bound) (sym last) (subst (λ z. unsigned_abs z ≤ bound) is small)
      | inr less ↦ h j less
    ]

pub steps_fit_more : (x d : ℕ) (q : Fraction) (ts sum next : List Monomial) (i : ℕ) (power : ℤ) → d ≡ degree_in x ts → next ≡ part_of x (d - (i + 1)) ts
    → power ≡ pos (den q ^ i) → IsPolynomialOf (restriction_step x q ts i) sum → ¬ PassesInStep q sum power next
    → ((j : ℕ) → j ≤ i → ¬ IsBeyond (restriction_step x q ts j)) → (j : ℕ) → j ≤ i + 1 → ¬ IsBeyond (restriction_step x q ts j)
steps_fit_more x d q ts sum next i power is_d is_next is_power h fits before j below =
    elim (cases_lt i j) [
      | inl more ↦ let last : j ≡ suc i = omega arith in
          subst (λ k. ¬ IsBeyond (restriction_step x q ts k)) (sym last)
          (λ beyond. fits (inr (beyond_same (restriction_step x q ts (suc i)) _
          (same_turned _ (restriction_step x q ts (suc i)) (same_step x d q ts sum next i power is_d is_next is_power h)) beyond)))
      | inr less ↦ before j less
    ]

-- where all steps fit the whole is not wide
pub all_steps_fit : (x : ℕ) (q : Fraction) (ts : List Monomial) (i : ℕ) → degree_in x ts ≤ i → ((j : ℕ) → j ≤ i → den q ^ j ≤ bound)
    → ((j : ℕ) → j ≤ i → ¬ IsBeyond (restriction_step x q ts j)) → ¬ IsWideRestriction x q ts
all_steps_fit x q ts i all powers steps wide =
    ⊎_elim (λ (over : bound < den q ^ wide.0). let small = powers wide.0 (omega (arith, all, wide.1)) in absurd (omega (arith, over, small)))
    (λ beyond. steps wide.0 (omega (arith, all, wide.1)) beyond) wide.2

pub last_made : (x : ℕ) (q : Fraction) (ts sum : List Monomial) (i : ℕ) → i ≡ degree_in x ts → IsPolynomialOf (restriction_step x q ts i) sum
    → IsPolynomialOf (restriction_step x q ts (degree_in x ts)) sum
last_made x q ts sum i is h = subst (λ k. IsPolynomialOf (restriction_step x q ts k) sum) is h

-- the last step without its content
pub unturned_is_primitive : (ts all y r : List Monomial) → IsPolynomialOf ts all → y ≡ all → IsKept y → IsSignedForm false y r → IsPrimitiveOf ts r
unturned_is_primitive ts all y r h is kept form =
    let whole : IsPrimitiveForm (scaled (pos 1) y) r = record { content = form.content; is_content = form.is_content; times = form.times } in
    primitive_of_same y ts r (subst (λ z. AreSame z ts) (sym is) h.same)
    (form_is_primitive y r kept.ordered (subst (λ z. IsPrimitiveForm z r) (scaled_once_is y) whole))
