-- The value of the written derivative is the slope.
use Rattle.std.proofs.Common.{ℕ, zero, suc, pos, Bool, true, false, if◌then◌else◌, List, [], ◌∷◌, Option, Some, None, refl, sym, ap, ◌∙◌, arith}
use Rattle.std.proofs.lemmas.Int.{ints}
use Rattle.std.specs.Str.{bytes_eq}
use Rattle.theory_meaning.specs.Fraction.{Fraction, whole, IsSame, sum_of, product_of, power_of}
use Rattle.theory_meaning.specs.Point.{Name, Point}
use Rattle.theory_meaning.specs.Text.{Numbered}
use Rattle.theory_meaning.specs.Tree.{Expr, number, symbol, sum, difference, opposite, product, power, quotient}
use Rattle.theory_meaning.specs.Truth.{value_of}
use Rattle.theory_meaning.specs.Declarations.{Declared, variable, parameter, function_of, declared_in}
use Rattle.theory_meaning.specs.Slope.{slope_name, plain_slope, arguments_slope, slope_by, Pair, pair_of, power_pair, slope_of}
use Rattle.theory_derivative.specs.Derivative.{counted, plus, minus, times, raised, of_power, of_plain, of_argument, of_arguments, of_name, derivative}
use Rattle.theory_meaning.proofs.FractionLaws.{Equals, exact, back, along, sums, products, sum_assoc, zero_plus, zero_times_is, sum_times_is}
use Rattle.theory_meaning.proofs.ValueLaws.{sum-swap, product-swap, product_assoc}
use Rattle.theory_derivative.proofs.NumberLaws.{self, differences, opposites, quotients, plus_zero, one_times}
use Rattle.theory_derivative.proofs.PairValues.{power_value, pair_value}
use Rattle.theory_derivative.proofs.WrittenValues.{plus_value, neg_value, minus_value, times_value, over_value}

-- names
plain_is : (d : Option Declared) (t x : Name) (p : Point) → Equals (value_of (of_plain d t x) p) (plain_slope d t x p)
plain_is (Some variable) t x p = exact refl
plain_is (Some parameter) t x p = shift_is (bytes_eq x t)
  where
    shift_is : (s : Bool) → Equals (value_of (if s then counted 1 else counted 0) p) (if s then whole (pos 1) else whole (pos 0))
    shift_is true = exact refl
    shift_is false = exact refl
plain_is (Some (function_of us)) t x p = exact refl
plain_is None t x p = exact refl

arguments_are : (lines : List Numbered) (t f : Name) (before : Expr) (us : List Name) (p : Point)
    → Equals (value_of (of_arguments lines t f before us) p) (sum_of (value_of before p) (arguments_slope lines t f us p))
arguments_are lines t f before [] p = back (plus_zero (value_of before p))
arguments_are lines t f before (u ∷ us) p =
    let term : Expr = of_argument lines t f u in
    along (arguments_are lines t f (plus before term) us p)
    (along (sums (along (plus_value before term p)
    (sums (exact refl) (along (times_value (symbol (slope_name f u)) (of_plain (declared_in lines u) t u) p)
    (products (exact refl) (plain_is (declared_in lines u) t u p))))) (exact refl))
    (exact (sum_assoc (value_of before p) _ (arguments_slope lines t f us p))))

name_is : (d : Option Declared) (lines : List Numbered) (t x : Name) (p : Point) → Equals (value_of (of_name d lines t x) p) (slope_by d lines t x p)
name_is (Some (function_of us)) lines t x p = along (arguments_are lines t x (counted 0) us p) (zero_plus (arguments_slope lines t x us p))
name_is (Some variable) lines t x p = plain_is (Some variable) t x p
name_is (Some parameter) lines t x p = plain_is (Some parameter) t x p
name_is None lines t x p = exact refl

-- the slope of the power of a pair to k + 1 is k + 1 times the power to k times the slope
power_slope : (a : Pair) (k : ℕ) → Equals (power_pair a (suc k)).slope (product_of (product_of (whole (pos (suc k))) (power_of a.value k)) a.slope)
power_slope a zero =
    along (sums (self (product_of (whole (pos 1)) a.slope)) (zero_times_is a.value))
    (along (plus_zero _) (products (back (one_times (whole (pos 1)))) (self a.slope)))
power_slope a (suc k) =
    let q : Fraction = a.value in
    let top : Fraction = power_of q (suc k) in
    let n : Fraction = whole (pos (suc k)) in
    let first : Equals (product_of (power_pair a (suc k)).value a.slope) (product_of (product_of (whole (pos 1)) top) a.slope) =
    products (along (exact (power_value a (suc k))) (back (one_times top))) (self a.slope) in
    let second : Equals (product_of (power_pair a (suc k)).slope q) (product_of (product_of n top) a.slope) =
    along (products (power_slope a k) (self q))
    (exact (product_assoc (product_of n (power_of q k)) a.slope q
    ∙ ap (product_of (product_of n (power_of q k))) (product-swap a.slope q)
    ∙ sym (product_assoc (product_of n (power_of q k)) q a.slope)
    ∙ ap (λ z. product_of z a.slope) (product_assoc n (power_of q k) q))) in
    along (sums first second)
    (along (sum_times_is (product_of (whole (pos 1)) top) (product_of n top) a.slope)
    (products (along (sum_times_is (whole (pos 1)) n top) (products (one_more k) (self top))) (self a.slope)))
  where
    one_more : (k : ℕ) → Equals (sum_of (whole (pos 1)) (whole (pos (suc k)))) (whole (pos (suc (suc k))))
    one_more k = record { is = let e : IsSame (sum_of (whole (pos 1)) (whole (pos (suc k)))) (whole (pos (suc (suc k)))) = omega (arith, ints) in e }

raised_value : (u : Expr) (k : ℕ) (p : Point) → Equals (value_of (raised u k) p) (power_of (value_of u p) (suc k))
raised_value u zero p = back (one_times (value_of u p))
raised_value u (suc k) p = exact refl

power_is : (lines : List Numbered) (t : Name) (u : Expr) (k : ℕ) (du : Expr) (p : Point) → Equals (value_of du p) (slope_of lines t u p)
    → Equals (value_of (of_power u k du) p) (power_pair (pair_of lines t u p) k).slope
power_is lines t u zero du p h = exact refl
power_is lines t u (suc zero) du p h =
    let a : Pair = pair_of lines t u p in
    along h (back (along (power_slope a zero) (along (products (one_times (whole (pos 1))) (self a.slope)) (one_times a.slope))))
power_is lines t u (suc (suc k)) du p h =
    let a : Pair = pair_of lines t u p in
    along (times_value (times (counted (suc (suc k))) (raised u k)) du p)
    (along (products (along (times_value (counted (suc (suc k))) (raised u k) p)
    (products (self (whole (pos (suc (suc k))))) (along (raised_value u k p) (exact (ap (λ z. power_of z (suc k)) (sym (pair_value lines t u p))))))) h)
    (back (power_slope a (suc k))))

-- the law
pub slope_is : (lines : List Numbered) (t : Name) (e : Expr) (p : Point) → Equals (value_of (derivative lines t e) p) (slope_of lines t e p)
slope_is lines t (number q) p = exact refl
slope_is lines t (symbol x) p = name_is (declared_in lines x) lines t x p
slope_is lines t (sum u v) p =
    along (plus_value (derivative lines t u) (derivative lines t v) p) (sums (slope_is lines t u p) (slope_is lines t v p))
slope_is lines t (difference u v) p =
    along (minus_value (derivative lines t u) (derivative lines t v) p) (differences (slope_is lines t u p) (slope_is lines t v p))
slope_is lines t (opposite u) p = along (neg_value (derivative lines t u) p) (opposites (slope_is lines t u p))
slope_is lines t (product u v) p =
    let du : Expr = derivative lines t u in
    let dv : Expr = derivative lines t v in
    along (plus_value (times du v) (times u dv) p)
    (along (sums (along (times_value du v p) (products (slope_is lines t u p) (exact (sym (pair_value lines t v p)))))
    (along (times_value u dv p) (products (exact (sym (pair_value lines t u p))) (slope_is lines t v p))))
    (exact (sum-swap _ _)))
slope_is lines t (power u k) p = power_is lines t u k (derivative lines t u) p (slope_is lines t u p)
slope_is lines t (quotient u v) p =
    let du : Expr = derivative lines t u in
    let dv : Expr = derivative lines t v in
    along (over_value (minus (times du v) (times u dv)) (times v v) p)
    (quotients (along (minus_value (times du v) (times u dv) p)
    (differences (along (times_value du v p) (products (slope_is lines t u p) (exact (sym (pair_value lines t v p)))))
    (along (times_value u dv p) (products (exact (sym (pair_value lines t u p))) (slope_is lines t v p)))))
    (along (times_value v v p) (products (exact (sym (pair_value lines t v p))) (exact (sym (pair_value lines t v p))))))

pub derivatives_are_slopes : (lines : List Numbered) (t : Name) (e : Expr) (p : Point) → IsSame (value_of (derivative lines t e) p) (slope_of lines t e p)
derivatives_are_slopes lines t e p = (slope_is lines t e p).is
