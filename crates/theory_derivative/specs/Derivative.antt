-- The written derivative of an expression along a parameter, the shift, by what the lines of a model declare.
-- Source: the rules are the textbook's; the written form, with 0 and 1 left out by these tests in this order, is this project's own.
use Rattle.std.specs.Prelude.{ℕ, zero, suc, Bool, false, ◌||◌, List, [], ◌∷◌, Option, Some, None, pos, if◌then◌else◌}
use Rattle.std.specs.Str.{bytes_eq}
use Rattle.theory_meaning.specs.Fraction.{whole, same}
use Rattle.theory_meaning.specs.Point.{Name}
use Rattle.theory_meaning.specs.Text.{Numbered}
use Rattle.theory_meaning.specs.Tree.{Expr, number, symbol, sum, difference, opposite, product, power, quotient}
use Rattle.theory_meaning.specs.Declarations.{Declared, variable, parameter, function_of, declared_in}
use Rattle.theory_meaning.specs.Slope.{derivative_name, slope_name}

-- the number n as an expression
abbrev pub counted : ℕ → Expr
counted n = number (whole (pos n))

-- the expression is a node of the number n
abbrev pub is_number : ℕ → Expr → Bool
is_number n (number q) = same q (whole (pos n))
is_number n _ = false

-- a sum, where a summand that is the number 0 is left out
abbrev pub plus : Expr → Expr → Expr
plus a b = if is_number 0 a then b else if is_number 0 b then a else sum a b

-- an opposite; that of the number 0 is 0
abbrev pub neg : Expr → Expr
neg a = if is_number 0 a then counted 0 else opposite a

-- a difference, where the number 0 is left out on either side
abbrev pub minus : Expr → Expr → Expr
minus a b = if is_number 0 b then a else if is_number 0 a then neg b else difference a b

-- a product; it is 0 where a factor is the number 0, and a factor that is the number 1 is left out
abbrev pub times : Expr → Expr → Expr
times a b =
    if is_number 0 a || is_number 0 b then counted 0
    else if is_number 1 a then b
    else if is_number 1 b then a
    else product a b

-- a quotient; it is 0 where the top is the number 0
abbrev pub over : Expr → Expr → Expr
over a b = if is_number 0 a then counted 0 else quotient a b

-- u to the power k + 1, where the power to 1 is u itself
abbrev pub raised : Expr → ℕ → Expr
raised u zero = u
raised u (suc k) = power u (suc (suc k))

-- the derivative of the power of u to k, where that of u is du
abbrev pub of_power : Expr → ℕ → Expr → Expr
of_power u zero du = counted 0
of_power u (suc zero) du = du
of_power u (suc (suc k)) du = times (times (counted (suc (suc k))) (raised u k)) du

-- the derivative of the product of u and v, where those of u and v are du and dv
abbrev pub of_product : Expr → Expr → Expr → Expr → Expr
of_product u v du dv = plus (times du v) (times u dv)

-- the derivative of the quotient of u by v
abbrev pub of_quotient : Expr → Expr → Expr → Expr → Expr
of_quotient u v du dv = over (minus (times du v) (times u dv)) (times v v)

-- the derivative of a variable, of the shift t, and of another parameter
abbrev pub of_plain : Option Declared → Name → Name → Expr
of_plain (Some variable) t x = symbol (derivative_name x)
of_plain (Some parameter) t x = if bytes_eq x t then counted 1 else counted 0
of_plain (Some (function_of us)) t x = counted 0
of_plain None t x = counted 0

-- the slope of a function in an argument, times the argument's derivative
abbrev pub of_argument : List Numbered → Name → Name → Name → Expr
of_argument lines t f u = times (symbol (slope_name f u)) (of_plain (declared_in lines u) t u)

-- the sum over the arguments of a function from the left, onto what stands before
abbrev pub of_arguments : List Numbered → Name → Name → Expr → List Name → Expr
of_arguments lines t f before [] = before
of_arguments lines t f before (u ∷ us) = of_arguments lines t f (plus before (of_argument lines t f u)) us

-- the derivative of a name by what it is declared as
abbrev pub of_name : Option Declared → List Numbered → Name → Name → Expr
of_name (Some (function_of us)) lines t x = of_arguments lines t x (counted 0) us
of_name d lines t x = of_plain d t x

-- the written derivative
abbrev pub derivative : List Numbered → Name → Expr → Expr
derivative lines t (number q) = counted 0
derivative lines t (symbol x) = of_name (declared_in lines x) lines t x
derivative lines t (sum u v) = plus (derivative lines t u) (derivative lines t v)
derivative lines t (difference u v) = minus (derivative lines t u) (derivative lines t v)
derivative lines t (opposite u) = neg (derivative lines t u)
derivative lines t (product u v) = of_product u v (derivative lines t u) (derivative lines t v)
derivative lines t (power u k) = of_power u k (derivative lines t u)
derivative lines t (quotient u v) = of_quotient u v (derivative lines t u) (derivative lines t v)
