-- The slope of an expression at a point along a parameter, the shift: evaluation in pairs of value and slope.
-- Source: total differentiation, textbook.
use Rattle.std.specs.Prelude.{ℕ, zero, suc, List, [], ◌∷◌, ◌++◌, Option, Some, None, pos, if◌then◌else◌}
use Rattle.std.specs.Str.{bytes_eq}
use Rattle.theory_meaning.specs.Fraction.{Fraction, whole, sum_of, difference_of, opposite_of, product_of, quotient_of}
use Rattle.theory_meaning.specs.Point.{Name, Point, value_at}
use Rattle.theory_meaning.specs.Text.{Numbered}
use Rattle.theory_meaning.specs.Tree.{Expr, number, symbol, sum, difference, opposite, product, power, quotient}
use Rattle.theory_meaning.specs.Declarations.{Declared, variable, parameter, function_of, declared_in, derivative_mark}

-- the name of a variable's derivative along the shift
abbrev pub derivative_name : Name → Name
derivative_name x = derivative_mark ++ 46 ∷ x

-- the name of a function's slope in an argument
abbrev pub slope_name : Name → Name → Name
slope_name f u = f ++ 46 ∷ u

-- the slope of a variable, of the shift, and of another parameter
abbrev pub plain_slope : Option Declared → Name → Name → Point → Fraction
plain_slope (Some variable) t x p = value_at p (derivative_name x)
plain_slope (Some parameter) t x p = if bytes_eq x t then whole (pos 1) else whole (pos 0)
plain_slope (Some (function_of us)) t x p = whole (pos 0)
plain_slope None t x p = whole (pos 0)

-- over the arguments of a function: the slope in each, times the argument's own slope
abbrev pub arguments_slope : List Numbered → Name → Name → List Name → Point → Fraction
arguments_slope lines t f [] p = whole (pos 0)
arguments_slope lines t f (u ∷ us) p =
    sum_of (product_of (value_at p (slope_name f u)) (plain_slope (declared_in lines u) t u p)) (arguments_slope lines t f us p)

-- the slope of a name by what it is declared as
abbrev pub slope_by : Option Declared → List Numbered → Name → Name → Point → Fraction
slope_by (Some (function_of us)) lines t x p = arguments_slope lines t x us p
slope_by (Some variable) lines t x p = plain_slope (Some variable) t x p
slope_by (Some parameter) lines t x p = plain_slope (Some parameter) t x p
slope_by None lines t x p = whole (pos 0)

-- a value with its slope
pub record Pair : Type 0 where
  pub value : Fraction
  pub slope : Fraction

-- sums, differences and opposites go by parts
abbrev pub sum_pair : Pair → Pair → Pair
sum_pair a b = record { value = sum_of a.value b.value; slope = sum_of a.slope b.slope }

abbrev pub difference_pair : Pair → Pair → Pair
difference_pair a b = record { value = difference_of a.value b.value; slope = difference_of a.slope b.slope }

abbrev pub opposite_pair : Pair → Pair
opposite_pair a = record { value = opposite_of a.value; slope = opposite_of a.slope }

-- the product rule
abbrev pub product_pair : Pair → Pair → Pair
product_pair a b = record { value = product_of a.value b.value; slope = sum_of (product_of a.value b.slope) (product_of a.slope b.value) }

-- a power is a repeated product
abbrev pub power_pair : Pair → ℕ → Pair
power_pair a zero = record { value = whole (pos 1); slope = whole (pos 0) }
power_pair a (suc k) = product_pair (power_pair a k) a

-- the top of the slope of a quotient
abbrev pub slope_top : Pair → Pair → Fraction
slope_top a b = difference_of (product_of a.slope b.value) (product_of a.value b.slope)

-- the quotient rule; both parts are 0 where the divisor is
abbrev pub quotient_pair : Pair → Pair → Pair
quotient_pair a b = record { value = quotient_of a.value b.value; slope = quotient_of (slope_top a b) (product_of b.value b.value) }

-- the pair of an expression
abbrev pub pair_of : List Numbered → Name → Expr → Point → Pair
pair_of lines t (number q) p = record { value = q; slope = whole (pos 0) }
pair_of lines t (symbol x) p = record { value = value_at p x; slope = slope_by (declared_in lines x) lines t x p }
pair_of lines t (sum u v) p = sum_pair (pair_of lines t u p) (pair_of lines t v p)
pair_of lines t (difference u v) p = difference_pair (pair_of lines t u p) (pair_of lines t v p)
pair_of lines t (opposite u) p = opposite_pair (pair_of lines t u p)
pair_of lines t (product u v) p = product_pair (pair_of lines t u p) (pair_of lines t v p)
pair_of lines t (power u k) p = power_pair (pair_of lines t u p) k
pair_of lines t (quotient u v) p = quotient_pair (pair_of lines t u p) (pair_of lines t v p)

-- its slope
abbrev pub slope_of : List Numbered → Name → Expr → Point → Fraction
slope_of lines t e p = (pair_of lines t e p).slope
