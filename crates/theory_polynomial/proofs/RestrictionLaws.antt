-- A polynomial at one value of a symbol: the steps of a restriction are its values, cleared of the denominator.
use Rattle.std.proofs.Common.{◌≡◌, ℕ, zero, suc, ◌+◌, ◌-◌, ◌^◌, ◌<◌, ◌≤◌, pos, Bool, List, [], ◌∷◌, get_or, set, refl, sym, ap, ap₂, ◌∙◌, subst, arith, inl, inr}
use Rattle.std.specs.Prelude.{◌↔◌, ◌==◌, filter, map, cond}
use Rattle.std.proofs.lemmas.Bool.{cases_Bool}
use Rattle.std.proofs.Math.Nat.{pow-suc, pow-zero, mul-pos}
use Rattle.theory_meaning.specs.declared.words.Sign.{Sign}
use Rattle.theory_meaning.specs.Fraction.{Fraction, den, whole, sum_of as fraction_sum, product_of as fraction_product, power_of}
use Rattle.theory_meaning.proofs.WholeLaws.{up-times, down-times}
use Rattle.theory_meaning.proofs.ValueLaws.{power_respects, product-swap, product_assoc, sum-swap, sum_middle-swap}
use borrow.Author.Differences.{same_in}
use Rattle.theory_polynomial.specs.Polynomial.{Monomial, monomial, exponent_of, degree_in, scaled}
use Rattle.theory_polynomial.specs.PolynomialValue.{Values, first_of, rest_of, power_product, term_at, polynomial_at, HasSignAt, GivesValue, part_of, restriction_step}
use Rattle.theory_meaning.proofs.FractionLaws.{Equals, exact, back, along, sums, products, zero_plus, zero_times_is, times_zero_is, sum_times_is, times_sum_is, one_times, product_left_swap, product_middle_swap, sign_of_same, sign_of_scaled, scaled_has_sign}
use Rattle.theory_polynomial.proofs.PolynomialValues.{value_of_sum, value_of_scaled}

-- the same on both sides
same_as : (q : Fraction) → Equals q q
same_as q = exact refl

-- powers of the symbol apart from the others
powers_apart : (e : List ℕ) (x : ℕ) (q : Fraction) (p : Values) → GivesValue x q p
    → Equals (power_product e p) (fraction_product (power_of q (get_or e x 0)) (power_product (set e x 0) p))
powers_apart [] x q p h = exact (sym (one_times (whole (pos 1))))
powers_apart (n ∷ e) zero q p h =
    products (record { is = power_respects (first_of p) q n h })
    (exact (sym (one_times (power_product e (rest_of p)))))
powers_apart (n ∷ e) (suc x) q p h =
    along (products (same_as (power_of (first_of p) n)) (powers_apart e x q (rest_of p) h))
    (exact (product_left_swap (power_of (first_of p) n) (power_of q (get_or e x 0)) (power_product (set e x 0) (rest_of p))))

-- the value of a term without the symbol
bare : ℕ → Monomial → Values → Fraction
bare x t p = term_at (monomial t.coefficient (set t.powers x 0)) p

term_apart : (x : ℕ) (q : Fraction) (p : Values) (t : Monomial) → GivesValue x q p
    → Equals (term_at t p) (fraction_product (power_of q (exponent_of x t)) (bare x t p))
unfolding bare
term_apart x q p t h =
    along (products (same_as (whole t.coefficient)) (powers_apart t.powers x q p h))
    (exact (product_left_swap (whole t.coefficient) (power_of q (exponent_of x t)) (power_product (set t.powers x 0) p)))

-- the symbol's e-th power divided by its k-th, 0 where there is none, and 1 where both are equal
left_power : Fraction → ℕ → ℕ → Fraction
left_power q zero e = power_of q e
left_power q (suc k) zero = whole (pos 0)
left_power q (suc k) (suc e) = left_power q k e

equal_power : ℕ → ℕ → Fraction
equal_power zero zero = whole (pos 1)
equal_power zero (suc e) = whole (pos 0)
equal_power (suc k) zero = whole (pos 0)
equal_power (suc k) (suc e) = equal_power k e

power_step : (q : Fraction) (k e : ℕ) → Equals (left_power q k e) (fraction_sum (fraction_product q (left_power q (suc k) e)) (equal_power k e))
unfolding left_power equal_power
power_step q zero zero = back (along (sums (times_zero_is q) (same_as (whole (pos 1)))) (zero_plus (whole (pos 1))))
power_step q zero (suc e) =
    back (along (exact (sum-swap (fraction_product q (power_of q e)) (whole (pos 0))))
    (along (zero_plus (fraction_product q (power_of q e))) (exact (product-swap q (power_of q e)))))
power_step q (suc k) zero = back (along (sums (times_zero_is q) (same_as (whole (pos 0)))) (zero_plus (whole (pos 0))))
power_step q (suc k) (suc e) = power_step q k e

equal_itself : (k : ℕ) → equal_power k k ≡ whole (pos 1)
unfolding equal_power
equal_itself zero = refl
equal_itself (suc k) = equal_itself k

equal_apart : (k e : ℕ) → ¬ (e ≡ k) → equal_power k e ≡ whole (pos 0)
unfolding equal_power
equal_apart zero zero h = absurd (h refl)
equal_apart zero (suc e) h = refl
equal_apart (suc k) zero h = refl
equal_apart (suc k) (suc e) h = equal_apart k e (λ is. h (ap suc is))

none_left : (q : Fraction) (k e : ℕ) → e < k → left_power q k e ≡ whole (pos 0)
unfolding left_power
none_left q zero e h = absurd (omega arith)
none_left q (suc k) zero h = refl
none_left q (suc k) (suc e) h = none_left q k e (omega arith)

all_left : (q : Fraction) (e : ℕ) → left_power q 0 e ≡ power_of q e
unfolding left_power
all_left q e = refl

-- the polynomial's coefficients from the k-th power on, summed up by Horner
above : ℕ → ℕ → Fraction → Values → List Monomial → Fraction
above x k q p [] = whole (pos 0)
above x k q p (t ∷ ts) = fraction_sum (fraction_product (left_power q k (exponent_of x t)) (bare x t p)) (above x k q p ts)

-- the part of one term
equal_part : (x k : ℕ) (p : Values) (t : Monomial) (ts : List Monomial)
    → Equals (fraction_sum (fraction_product (equal_power k (exponent_of x t)) (bare x t p)) (polynomial_at (part_of x k ts) p))
    (polynomial_at (part_of x k (t ∷ ts)) p)
unfolding bare
equal_part x k p t ts =
    let keep : Bool → List Monomial = λ b. map (λ t. monomial t.coefficient (set t.powers x 0))
    (cond b (t ∷ filter (λ t. exponent_of x t == k) ts) (filter (λ t. exponent_of x t == k) ts)) in
    let rest : Fraction = polynomial_at (part_of x k ts) p in
    let own : Fraction = term_at (monomial t.coefficient (set t.powers x 0)) p in
    elim (cases_Bool (exponent_of x t == k)) [
      | inl same ↦
          let is : exponent_of x t ≡ k = grind arith in
          along (sums (exact (ap (λ f. fraction_product f own) (ap (equal_power k) is ∙ equal_itself k) ∙ one_times own)) (same_as rest))
          (exact (ap (λ b. polynomial_at (keep b) p) (sym same)))
      | inr apart ↦
          let differs : ¬ (exponent_of x t ≡ k) = λ is. grind (arith, is, apart) in
          along (sums (along (exact (ap (λ f. fraction_product f own) (equal_apart k (exponent_of x t) differs))) (zero_times_is own)) (same_as rest))
          (along (zero_plus rest) (exact (ap (λ b. polynomial_at (keep b) p) (sym apart))))
    ]

-- one step of Horner's scheme
horner : (x k : ℕ) (q : Fraction) (p : Values) (ts : List Monomial)
    → Equals (above x k q p ts) (fraction_sum (fraction_product q (above x (suc k) q p ts)) (polynomial_at (part_of x k ts) p))
unfolding above
horner x k q p [] = back (along (sums (times_zero_is q) (same_as (whole (pos 0)))) (zero_plus (whole (pos 0))))
horner x k q p (t ∷ ts) =
    let w : Fraction = bare x t p in
    let high : Fraction = left_power q (suc k) (exponent_of x t) in
    let one : Fraction = equal_power k (exponent_of x t) in
    let rest : Fraction = above x (suc k) q p ts in
    let part : Fraction = polynomial_at (part_of x k ts) p in
    let own : Equals (fraction_product (left_power q k (exponent_of x t)) w)
    (fraction_sum (fraction_product q (fraction_product high w)) (fraction_product one w)) =
    along (products (power_step q k (exponent_of x t)) (same_as w))
    (along (back (sum_times_is (fraction_product q high) one w)) (sums (exact (product_assoc q high w)) (same_as (fraction_product one w)))) in
    along (sums own (horner x k q p ts))
    (along (exact (sum_middle-swap (fraction_product q (fraction_product high w)) (fraction_product one w) (fraction_product q rest) part))
    (sums (back (times_sum_is q (fraction_product high w) rest)) (equal_part x k p t ts)))

-- past the degree nothing is left, and from the start all is
nothing_above : (x k : ℕ) (q : Fraction) (p : Values) (ts : List Monomial) → degree_in x ts < k → Equals (above x k q p ts) (whole (pos 0))
unfolding above
nothing_above x k q p [] h = same_as (whole (pos 0))
nothing_above x k q p (t ∷ ts) h =
    along (sums (along (exact (ap (λ f. fraction_product f (bare x t p)) (none_left q k (exponent_of x t) (omega arith)))) (zero_times_is (bare x t p)))
    (nothing_above x k q p ts (omega arith))) (zero_plus (whole (pos 0)))

all_above : (x : ℕ) (q : Fraction) (p : Values) (ts : List Monomial) → GivesValue x q p → Equals (above x 0 q p ts) (polynomial_at ts p)
unfolding above
all_above x q p [] h = same_as (whole (pos 0))
all_above x q p (t ∷ ts) h =
    sums (along (exact (ap (λ f. fraction_product f (bare x t p)) (all_left q (exponent_of x t)))) (back (term_apart x q p t h))) (all_above x q p ts h)

-- the denominator times the value is the numerator
cleared : (q : Fraction) → Equals (fraction_product (whole (pos (den q))) q) (whole q.num)
cleared q = record { is = same_in _ _ (simp (up-times, down-times) (omega arith)) }

power_of_den : (d i : ℕ) → whole (pos (d ^ suc i)) ≡ fraction_product (whole (pos (d ^ i))) (whole (pos d))
power_of_den d i = ap (λ n. whole (pos n)) (pow-suc d i)

-- the value of a step
factor_out : (c d q r n part : Fraction) → Equals (fraction_product d q) n
    → Equals (fraction_sum (fraction_product n (fraction_product c r)) (fraction_product (fraction_product c d) part))
    (fraction_product (fraction_product c d) (fraction_sum (fraction_product q r) part))
factor_out c d q r n part h =
    along (sums (along (products (back h) (same_as (fraction_product c r)))
    (exact (product_middle_swap d q c r ∙ ap (λ z. fraction_product z (fraction_product q r)) (product-swap d c))))
    (same_as (fraction_product (fraction_product c d) part)))
    (back (times_sum_is (fraction_product c d) (fraction_product q r) part))

step_value : (x : ℕ) (q : Fraction) (p : Values) (ts : List Monomial) (i : ℕ) → i ≤ degree_in x ts
    → Equals (polynomial_at (restriction_step x q ts i) p) (fraction_product (whole (pos (den q ^ i))) (above x (degree_in x ts - i) q p ts))
step_value x q p ts zero h =
    let top : ℕ = degree_in x ts in
    let past : degree_in x ts < suc top = omega arith in
    let part : Fraction = polynomial_at (part_of x top ts) p in
    let start : fraction_product (whole (pos (den q ^ 0))) (above x (top - 0) q p ts) ≡ fraction_product (whole (pos 1)) (above x top q p ts) =
    ap₂ (λ (n k : ℕ). fraction_product (whole (pos n)) (above x k q p ts)) (pow-zero (den q)) (let e : top - 0 ≡ top = omega arith in e) in
    back (along (exact (start ∙ one_times (above x top q p ts)))
    (along (horner x top q p ts)
    (along (sums (along (products (same_as q) (nothing_above x (suc top) q p ts past)) (times_zero_is q)) (same_as part)) (zero_plus part))))
step_value x q p ts (suc i) h =
    let k : ℕ = degree_in x ts - suc i in
    let next : degree_in x ts - i ≡ suc k = omega arith in
    let c : Fraction = whole (pos (den q ^ i)) in
    let part : Fraction = polynomial_at (part_of x k ts) p in
    let before : Equals (polynomial_at (restriction_step x q ts i) p) (fraction_product c (above x (suc k) q p ts)) =
    along (step_value x q p ts i (omega arith)) (exact (ap (λ m. fraction_product c (above x m q p ts)) next)) in
    along (value_of_sum (scaled q.num (restriction_step x q ts i)) (scaled (pos (den q ^ suc i)) (part_of x k ts)) p)
    (along (sums (along (value_of_scaled q.num (restriction_step x q ts i) p) (products (same_as (whole q.num)) before))
    (along (value_of_scaled (pos (den q ^ suc i)) (part_of x k ts) p) (exact (ap (λ z. fraction_product z part) (power_of_den (den q) i)))))
    (along (factor_out c (whole (pos (den q))) q (above x (suc k) q p ts) (whole q.num) part (cleared q))
    (products (exact (sym (power_of_den (den q) i))) (back (horner x k q p ts)))))

-- the last step is the value times a power of the denominator
pub last_value : (x : ℕ) (q : Fraction) (p : Values) (ts : List Monomial) → GivesValue x q p
    → Equals (polynomial_at (restriction_step x q ts (degree_in x ts)) p) (fraction_product (whole (pos (den q ^ degree_in x ts))) (polynomial_at ts p))
last_value x q p ts h =
    let top : ℕ = degree_in x ts in
    let all : top ≤ degree_in x ts = omega arith in
    let none : degree_in x ts - top ≡ 0 = omega arith in
    along (step_value x q p ts top all)
    (products (same_as (whole (pos (den q ^ top)))) (along (exact (ap (λ m. above x m q p ts) none)) (all_above x q p ts h)))

-- so it has the sign of the value
positive_power : (l i : ℕ) → 0 < (l + 1) ^ i
positive_power l zero = let one : 0 < 1 = omega arith in subst (λ n. 0 < n) (sym (pow-zero (l + 1))) one
positive_power l (suc i) =
    let some : 0 < l + 1 = omega arith in
    subst (λ n. 0 < n) (sym (pow-suc (l + 1) i)) (mul-pos (positive_power l i) some)

pub last_has_sign : (x : ℕ) (q : Fraction) (p : Values) (ts : List Monomial) (s : Sign) → GivesValue x q p
    → HasSignAt p (restriction_step x q ts (degree_in x ts)) s ↔ HasSignAt p ts s
last_has_sign x q p ts s h =
    let n : ℕ = den q ^ degree_in x ts in
    let some = positive_power q.less (degree_in x ts) in
    let is : n ≡ (n - 1) + 1 = omega (arith, some) in
    let value : Equals (polynomial_at (restriction_step x q ts (degree_in x ts)) p) (fraction_product (whole (pos ((n - 1) + 1))) (polynomial_at ts p)) =
    along (last_value x q p ts h) (exact (ap (λ m. fraction_product (whole (pos m)) (polynomial_at ts p)) is)) in (
      λ k. sign_of_scaled (n - 1) (polynomial_at ts p) s (sign_of_same _ _ s value.is k),
      λ k. sign_of_same _ _ s (back value).is (scaled_has_sign (n - 1) (polynomial_at ts p) s k),
    )
