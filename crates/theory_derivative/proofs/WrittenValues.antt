-- The written sums, differences, opposites, products and quotients have the values of the operations.
use Rattle.std.proofs.Common.{◌≡◌, ℕ, pos, Bool, true, false, ◌||◌, if◌then◌else◌, refl, ◌⊎◌, inl, inr, ⊎_elim}
use Rattle.std.proofs.lemmas.Bool.{both_ways}
use Rattle.theory_meaning.specs.Fraction.{whole, sum_of, difference_of, product_of, opposite_of, reciprocal_of, quotient_of}
use Rattle.theory_meaning.specs.Point.{Point}
use Rattle.theory_meaning.specs.Tree.{Expr, number, symbol, sum, difference, opposite, product, power, quotient}
use Rattle.theory_meaning.specs.Truth.{value_of}
use Rattle.theory_derivative.specs.Derivative.{counted, is_number, plus, neg, minus, times, over}
use Rattle.theory_meaning.proofs.OrderLaws.{fact_from_same}
use Rattle.theory_meaning.proofs.FractionLaws.{Equals, exact, back, along, sums, products, zero_plus, zero_times_is, times_zero_is}
use Rattle.theory_meaning.proofs.ValueLaws.{difference-is}
use Rattle.theory_derivative.proofs.NumberLaws.{differences, opposites, quotients, plus_zero, one_times, times_one, zero_opposite, less_zero}

-- a fact of each arm is one of the choice
pub chosen : (t : Bool) (P : Expr → Type 0) (x y : Expr) → (t ≡ true → P x) → (t ≡ false → P y) → P (if t then x else y)
chosen true P x y f g = f refl
chosen false P x y f g = g refl

-- what is a node of a number has its value
number_value : (n : ℕ) (e : Expr) (p : Point) → is_number n e ≡ true → Equals (value_of e p) (whole (pos n))
number_value n (number q) p h = record { is = fact_from_same q (whole (pos n)) h }
number_value n (symbol x) p h = absurd (both_ways false refl h)
number_value n (sum u v) p h = absurd (both_ways false refl h)
number_value n (difference u v) p h = absurd (both_ways false refl h)
number_value n (opposite u) p h = absurd (both_ways false refl h)
number_value n (product u v) p h = absurd (both_ways false refl h)
number_value n (power u k) p h = absurd (both_ways false refl h)
number_value n (quotient u v) p h = absurd (both_ways false refl h)

-- one of two is such a node
either_true : (s t : Bool) → (s || t) ≡ true → (s ≡ true) ⊎ (t ≡ true)
either_true true t h = inl refl
either_true false t h = inr h

-- the written operations have the values of the operations
pub plus_value : (a b : Expr) (p : Point) → Equals (value_of (plus a b) p) (sum_of (value_of a p) (value_of b p))
plus_value a b p =
    chosen (is_number 0 a) (λ e. Equals (value_of e p) (sum_of (value_of a p) (value_of b p))) b (if is_number 0 b then a else sum a b)
    (λ h. back (along (sums (number_value 0 a p h) (exact refl)) (zero_plus (value_of b p))))
    (λ h.
    chosen (is_number 0 b) (λ e. Equals (value_of e p) (sum_of (value_of a p) (value_of b p))) a (sum a b)
    (λ k. back (along (sums (exact refl) (number_value 0 b p k)) (plus_zero (value_of a p)))) (λ k. exact refl))

pub neg_value : (a : Expr) (p : Point) → Equals (value_of (neg a) p) (opposite_of (value_of a p))
neg_value a p =
    chosen (is_number 0 a) (λ e. Equals (value_of e p) (opposite_of (value_of a p))) (counted 0) (opposite a)
    (λ h. back (along (opposites (number_value 0 a p h)) zero_opposite)) (λ h. exact refl)

pub minus_value : (a b : Expr) (p : Point) → Equals (value_of (minus a b) p) (difference_of (value_of a p) (value_of b p))
minus_value a b p =
    chosen (is_number 0 b) (λ e. Equals (value_of e p) (difference_of (value_of a p) (value_of b p))) a (if is_number 0 a then neg b else difference a b)
    (λ h. back (along (differences (exact refl) (number_value 0 b p h)) (less_zero (value_of a p))))
    (λ h.
    chosen (is_number 0 a) (λ e. Equals (value_of e p) (difference_of (value_of a p) (value_of b p))) (neg b) (difference a b)
    (λ k. along (neg_value b p) (back (along (differences (number_value 0 a p k) (exact refl)) (along (exact (difference-is (whole (pos 0)) (value_of b p))) (zero_plus (opposite_of (value_of b p)))))))
    (λ k. exact refl))

pub times_value : (a b : Expr) (p : Point) → Equals (value_of (times a b) p) (product_of (value_of a p) (value_of b p))
times_value a b p =
    let P : Expr → Type 0 = λ e. Equals (value_of e p) (product_of (value_of a p) (value_of b p)) in
    chosen (is_number 0 a || is_number 0 b) P (counted 0) (if is_number 1 a then b else if is_number 1 b then a else product a b)
    (λ h.
    ⊎_elim (λ k. back (along (products (number_value 0 a p k) (exact refl)) (zero_times_is (value_of b p))))
    (λ k. back (along (products (exact refl) (number_value 0 b p k)) (times_zero_is (value_of a p)))) (either_true (is_number 0 a) (is_number 0 b) h))
    (λ h.
    chosen (is_number 1 a) P b (if is_number 1 b then a else product a b)
    (λ k. back (along (products (number_value 1 a p k) (exact refl)) (one_times (value_of b p))))
    (λ k.
    chosen (is_number 1 b) P a (product a b)
    (λ l. back (along (products (exact refl) (number_value 1 b p l)) (times_one (value_of a p)))) (λ l. exact refl)))

pub over_value : (a b : Expr) (p : Point) → Equals (value_of (over a b) p) (quotient_of (value_of a p) (value_of b p))
over_value a b p =
    chosen (is_number 0 a) (λ e. Equals (value_of e p) (quotient_of (value_of a p) (value_of b p))) (counted 0) (quotient a b)
    (λ h. back (along (quotients (number_value 0 a p h) (exact refl)) (zero_times_is (reciprocal_of (value_of b p))))) (λ h. exact refl)
