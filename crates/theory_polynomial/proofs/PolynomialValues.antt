-- The value of a sum of terms at a point depends on the coefficients alone; sums, multiples and products.
use Rattle.std.proofs.Common.{◌≡◌, ℕ, zero, suc, ◌+◌, ◌≤◌, ℤ, pos, negsuc, ◌+ℤ◌, ◌*ℤ◌, Bool, true, false, List, [], ◌∷◌, length, refl, sym, ap, ap₂, ◌∙◌, subst, arith, inl, inr}
use Rattle.std.specs.Prelude.{if◌then◌else◌}
use Rattle.std.specs.Str.{bytes_eq}
use Rattle.std.proofs.lemmas.Bool.{cases_Bool, both_ways}
use Rattle.std.proofs.lemmas.Slice.Eq.{bytes_eq-Decides}
use Rattle.std.proofs.lemmas.Int.{ints}
use Rattle.theory_meaning.specs.declared.words.Sign.{Sign}
use Rattle.theory_meaning.specs.Fraction.{Fraction, whole, sum_of as fraction_sum, product_of as fraction_product, opposite_of, power_of}
use Rattle.theory_meaning.proofs.ValueLaws.{product-swap, product_assoc}
use Rattle.theory_polynomial.specs.Polynomial.{Monomial, monomial, coefficient_at, AreSame, scaled, sum_of, difference_of, powers_of_product, product_of_two, multiple_of, product_of}
use Rattle.theory_polynomial.specs.PolynomialValue.{Values, first_of, rest_of, power_product, term_at, polynomial_at, HasSignAt}
use Rattle.theory_polynomial.proofs.CoefficientLaws.{bytes_eq_itself, coefficient_at-difference}
use Rattle.theory_meaning.proofs.FractionLaws.{Equals, exact, back, along, sums, zero_plus, zero_times_is, times_zero_is, sum_times_is, times_sum_is, whole_sum_times_is, sum_assoc, sum_left_swap, one_times, product_middle_swap, power_sum, turned_times, same_from_difference, sign_of_same, sign_of_scaled, scaled_has_sign}

-- the value of a sum
pub value_of_sum : (ts us : List Monomial) (p : Values)
    → Equals (polynomial_at (sum_of ts us) p) (fraction_sum (polynomial_at ts p) (polynomial_at us p))
value_of_sum [] us p = back (zero_plus (polynomial_at us p))
value_of_sum (t ∷ ts) us p =
    along (sums (exact {q = term_at t p} refl) (value_of_sum ts us p))
    (exact (sym (sum_assoc (term_at t p) (polynomial_at ts p) (polynomial_at us p))))

-- the value of a multiple
pub value_of_scaled : (n : ℤ) (ts : List Monomial) (p : Values)
    → Equals (polynomial_at (scaled n ts) p) (fraction_product (whole n) (polynomial_at ts p))
value_of_scaled n [] p = back (times_zero_is (whole n))
value_of_scaled n (t ∷ ts) p =
    let own : term_at (monomial (n *ℤ t.coefficient) t.powers) p ≡ fraction_product (whole n) (term_at t p) =
    product_assoc (whole n) (whole t.coefficient) (power_product t.powers p) in
    along (sums (exact own) (value_of_scaled n ts p)) (back (times_sum_is (whole n) (term_at t p) (polynomial_at ts p)))

-- the terms with other exponent lists
others : List ℕ → List Monomial → List Monomial
others e [] = []
others e (t ∷ ts) = if bytes_eq t.powers e then others e ts else t ∷ others e ts

-- what the terms at an exponent list add up to
taken : List ℕ → List Monomial → Values → Fraction
taken e ts p = fraction_product (whole (coefficient_at ts e)) (power_product e p)

taken_apart : (e : List ℕ) (t : Monomial) (ts : List Monomial) (p : Values) (b : Bool) → bytes_eq t.powers e ≡ b
    → Equals (polynomial_at ts p) (fraction_sum (taken e ts p) (polynomial_at (others e ts) p))
    → Equals (polynomial_at (t ∷ ts) p)
    (fraction_sum (fraction_product (whole ((if b then t.coefficient else pos 0) +ℤ coefficient_at ts e)) (power_product e p))
    (polynomial_at (if b then others e ts else t ∷ others e ts) p))
unfolding taken
taken_apart e t ts p true is h =
    let powers : t.powers ≡ e = (bytes_eq-Decides t.powers e).0 is in
    let rest : Fraction = polynomial_at (others e ts) p in
    let own : Fraction = fraction_product (whole t.coefficient) (power_product e p) in
    let same_own : term_at t p ≡ own = ap (λ f. fraction_product (whole t.coefficient) (power_product f p)) powers in
    along (sums (exact same_own) h)
    (along (exact (sym (sum_assoc own (fraction_product (whole (coefficient_at ts e)) (power_product e p)) rest)))
    (sums (whole_sum_times_is t.coefficient (coefficient_at ts e) (power_product e p)) (exact {q = rest} refl)))
taken_apart e t ts p false is h =
    let rest : Fraction = polynomial_at (others e ts) p in
    let nothing : coefficient_at ts e ≡ pos 0 +ℤ coefficient_at ts e = omega (arith, ints) in
    let left : Fraction = fraction_product (whole (coefficient_at ts e)) (power_product e p) in
    along (sums (exact {q = term_at t p} refl) h)
    (exact (sum_left_swap (term_at t p) left rest
    ∙ ap (λ c. fraction_sum (fraction_product (whole c) (power_product e p)) (fraction_sum (term_at t p) rest)) nothing))

value_taken_apart : (e : List ℕ) (ts : List Monomial) (p : Values)
    → Equals (polynomial_at ts p) (fraction_sum (taken e ts p) (polynomial_at (others e ts) p))
unfolding others taken
value_taken_apart e [] p =
    back (along (sums (zero_times_is (power_product e p)) (exact {q = whole (pos 0)} refl)) (zero_plus (whole (pos 0))))
value_taken_apart e (t ∷ ts) p = taken_apart e t ts p (bytes_eq t.powers e) refl (value_taken_apart e ts p)

-- the others have no coefficient there, and the same ones elsewhere
others_step : (e f : List ℕ) (t : Monomial) (ts : List Monomial) (b : Bool) → bytes_eq t.powers e ≡ b → bytes_eq f e ≡ false
    → coefficient_at (others e ts) f ≡ coefficient_at ts f
    → coefficient_at (if b then others e ts else t ∷ others e ts) f ≡ coefficient_at (t ∷ ts) f
others_step e f t ts true is apart h =
    let other : bytes_eq t.powers f ≡ false =
    elim (cases_Bool (bytes_eq t.powers f)) [
      | inl same ↦ absurd (both_ways (bytes_eq f e) apart
          (subst (λ x. bytes_eq x e ≡ true) ((bytes_eq-Decides t.powers f).0 same) is))
      | inr differs ↦ differs
    ] in
    let none : (if bytes_eq t.powers f then t.coefficient else pos 0) ≡ pos 0 = ap (λ x. if x then t.coefficient else pos 0) other in
    omega (arith, ints, none, h)
others_step e f t ts false is apart h = ap (λ z. (if bytes_eq t.powers f then t.coefficient else pos 0) +ℤ z) h

coefficient_in_others : (e f : List ℕ) (ts : List Monomial) → bytes_eq f e ≡ false → coefficient_at (others e ts) f ≡ coefficient_at ts f
unfolding others
coefficient_in_others e f [] apart = refl
coefficient_in_others e f (t ∷ ts) apart =
    others_step e f t ts (bytes_eq t.powers e) refl apart (coefficient_in_others e f ts apart)

none_step : (e : List ℕ) (t : Monomial) (ts : List Monomial) (b : Bool) → bytes_eq t.powers e ≡ b → coefficient_at (others e ts) e ≡ pos 0
    → coefficient_at (if b then others e ts else t ∷ others e ts) e ≡ pos 0
none_step e t ts true is h = h
none_step e t ts false is h =
    let none : (if bytes_eq t.powers e then t.coefficient else pos 0) ≡ pos 0 = ap (λ x. if x then t.coefficient else pos 0) is in
    omega (arith, ints, none, h)

coefficient_taken : (e : List ℕ) (ts : List Monomial) → coefficient_at (others e ts) e ≡ pos 0
unfolding others
coefficient_taken e [] = refl
coefficient_taken e (t ∷ ts) = none_step e t ts (bytes_eq t.powers e) refl (coefficient_taken e ts)

-- so the others of what is 0 are 0
others_of_zero : (e : List ℕ) (ts : List Monomial) → AreSame ts [] → AreSame (others e ts) []
others_of_zero e ts h = record {
  at = λ f.
      elim (cases_Bool (bytes_eq f e)) [
        | inl same ↦ subst (λ x. coefficient_at (others e ts) x ≡ pos 0) (sym ((bytes_eq-Decides f e).0 same)) (coefficient_taken e ts)
        | inr apart ↦ coefficient_in_others e f ts apart ∙ h.at f
      ];
}

-- and they are fewer where the first is taken
shorter_step : (t : Monomial) (e : List ℕ) (ts : List Monomial) (b : Bool) → length (others e ts) ≤ length ts
    → length (if b then others e ts else t ∷ others e ts) ≤ length (t ∷ ts)
shorter_step t e ts true h = omega arith
shorter_step t e ts false h = omega arith

not_longer : (e : List ℕ) (ts : List Monomial) → length (others e ts) ≤ length ts
unfolding others
not_longer e [] = omega arith
not_longer e (t ∷ ts) = shorter_step t e ts (bytes_eq t.powers e) (not_longer e ts)

first_is_taken : (t : Monomial) (ts : List Monomial) → others t.powers (t ∷ ts) ≡ others t.powers ts
unfolding others
first_is_taken t ts = ap (λ b. if b then others t.powers ts else t ∷ others t.powers ts) (bytes_eq_itself t.powers)

-- without coefficients the value is 0
zero_within : (n : ℕ) (ts : List Monomial) (p : Values) → length ts ≤ n → AreSame ts [] → Equals (polynomial_at ts p) (whole (pos 0))
unfolding taken
zero_within n [] p small h = exact refl
zero_within zero (t ∷ ts) p small h = absurd (omega arith)
zero_within (suc n) (t ∷ ts) p small h =
    let e : List ℕ = t.powers in
    let g : Fraction = power_product e p in
    let fewer : length (others e (t ∷ ts)) ≤ n =
    subst (λ z. length z ≤ n) (sym (first_is_taken t ts)) (let k = not_longer e ts in omega (arith, k)) in
    let rest = zero_within n (others e (t ∷ ts)) p fewer (others_of_zero e (t ∷ ts) h) in
    let own : Equals (taken e (t ∷ ts) p) (whole (pos 0)) =
    along (exact (ap (λ c. fraction_product (whole c) g) (h.at e))) (zero_times_is g) in
    along (value_taken_apart e (t ∷ ts) p) (along (sums own rest) (zero_plus (whole (pos 0))))

pub value_of_zero : (ts : List Monomial) (p : Values) → AreSame ts [] → Equals (polynomial_at ts p) (whole (pos 0))
value_of_zero ts p h = let small : length ts ≤ length ts = omega arith in zero_within (length ts) ts p small h

-- the value of a difference
pub value_of_difference : (ts us : List Monomial) (p : Values)
    → Equals (polynomial_at (difference_of ts us) p) (fraction_sum (polynomial_at ts p) (opposite_of (polynomial_at us p)))
value_of_difference ts us p =
    along (value_of_sum ts (scaled (negsuc 0) us) p)
    (sums (exact {q = polynomial_at ts p} refl) (along (value_of_scaled (negsuc 0) us p) (exact (turned_times (polynomial_at us p)))))

difference_is_zero : (ts us : List Monomial) → AreSame ts us → AreSame (difference_of ts us) []
difference_is_zero ts us h = record {
  at = λ e.
      let both = coefficient_at-difference ts us e in
      let same = h.at e in
      omega (arith, ints, both, same);
}

-- the same coefficients give the same value
pub value_of_same : (ts us : List Monomial) (p : Values) → AreSame ts us → Equals (polynomial_at ts p) (polynomial_at us p)
value_of_same ts us p h =
    let none = along (back (value_of_difference ts us p)) (value_of_zero (difference_of ts us) p (difference_is_zero ts us h)) in
    record { is = same_from_difference (polynomial_at ts p) (polynomial_at us p) none.is }

-- powers of a product
pub powers_multiply : (e f : List ℕ) (p : Values) → power_product (powers_of_product e f) p ≡ fraction_product (power_product e p) (power_product f p)
powers_multiply [] f p = sym (one_times (power_product f p))
powers_multiply (m ∷ e) [] p = sym (one_times (power_product (m ∷ e) p)) ∙ product-swap (whole (pos 1)) (power_product (m ∷ e) p)
powers_multiply (m ∷ e) (n ∷ f) p =
    ap₂ fraction_product (power_sum (first_of p) m n) (powers_multiply e f (rest_of p))
    ∙ product_middle_swap (power_of (first_of p) m) (power_of (first_of p) n) (power_product e (rest_of p)) (power_product f (rest_of p))

-- the value of a product of terms, of a multiple and of a product
pub value_of_two : (t u : Monomial) (p : Values) → term_at (product_of_two t u) p ≡ fraction_product (term_at t p) (term_at u p)
value_of_two t u p =
    ap (fraction_product (whole (t.coefficient *ℤ u.coefficient))) (powers_multiply t.powers u.powers p)
    ∙ product_middle_swap (whole t.coefficient) (whole u.coefficient) (power_product t.powers p) (power_product u.powers p)

pub value_of_multiple : (t : Monomial) (us : List Monomial) (p : Values)
    → Equals (polynomial_at (multiple_of t us) p) (fraction_product (term_at t p) (polynomial_at us p))
value_of_multiple t [] p = back (times_zero_is (term_at t p))
value_of_multiple t (u ∷ us) p =
    along (sums (exact (value_of_two t u p)) (value_of_multiple t us p)) (back (times_sum_is (term_at t p) (term_at u p) (polynomial_at us p)))

pub value_of_product : (ts us : List Monomial) (p : Values)
    → Equals (polynomial_at (product_of ts us) p) (fraction_product (polynomial_at ts p) (polynomial_at us p))
value_of_product [] us p = back (zero_times_is (polynomial_at us p))
value_of_product (t ∷ ts) us p =
    along (value_of_sum (multiple_of t us) (product_of ts us) p)
    (along (sums (value_of_multiple t us p) (value_of_product ts us p)) (sum_times_is (term_at t p) (polynomial_at ts p) (polynomial_at us p)))

-- signs of the same and of positive multiples
pub sign_of_same_map : (ts us : List Monomial) (p : Values) (s : Sign) → AreSame ts us → HasSignAt p ts s → HasSignAt p us s
sign_of_same_map ts us p s h k = sign_of_same (polynomial_at ts p) (polynomial_at us p) s (value_of_same ts us p h).is k

pub sign_of_multiple : (n : ℕ) (ts us : List Monomial) (p : Values) (s : Sign) → AreSame (scaled (pos (n + 1)) ts) us
    → HasSignAt p ts s → HasSignAt p us s
sign_of_multiple n ts us p s h k =
    sign_of_same _ _ s (along (back (value_of_scaled (pos (n + 1)) ts p)) (value_of_same (scaled (pos (n + 1)) ts) us p h)).is
    (scaled_has_sign n (polynomial_at ts p) s k)

pub sign_of_divided : (n : ℕ) (ts us : List Monomial) (p : Values) (s : Sign) → AreSame (scaled (pos (n + 1)) ts) us
    → HasSignAt p us s → HasSignAt p ts s
sign_of_divided n ts us p s h k =
    sign_of_scaled n (polynomial_at ts p) s
    (sign_of_same _ _ s (along (back (value_of_same (scaled (pos (n + 1)) ts) us p h)) (value_of_scaled (pos (n + 1)) ts p)).is k)
