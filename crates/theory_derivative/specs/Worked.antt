-- Worked expressions: a power, a quotient and a function, with their derivatives.
use Rattle.std.specs.Prelude.{pos, codes}
use Rattle.theory_meaning.specs.Fraction.{whole}
use Rattle.theory_meaning.specs.Tree.{Expr, number, symbol, sum, difference, product, power, quotient}

-- symbols: a price, that without the tax, the tax, demand and supply, and slopes
abbrev pub p : Expr
p = symbol (codes "p")

abbrev pub r : Expr
r = symbol (codes "r")

abbrev pub t : Expr
t = symbol (codes "t")

abbrev pub demand : Expr
demand = symbol (codes "D")

abbrev pub supply : Expr
supply = symbol (codes "S")

abbrev pub dp : Expr
dp = symbol (codes "d.p")

abbrev pub dr : Expr
dr = symbol (codes "d.r")

abbrev pub demand_slope : Expr
demand_slope = symbol (codes "D.p")

abbrev pub supply_slope : Expr
supply_slope = symbol (codes "S.r")

-- 0, 1 and 2
abbrev pub zero : Expr
zero = number (whole (pos 0))

abbrev pub one : Expr
one = number (whole (pos 1))

abbrev pub two : Expr
two = number (whole (pos 2))

-- p^2*t; along t it gives 2*p*d.p*t + p^2, and along s 2*p*d.p*t
abbrev pub square_times : Expr
square_times = product (power p 2) t

abbrev pub square_slope : Expr
square_slope = product (product (product two p) dp) t

-- p/t; along t it gives (d.p*t - p)/(t*t)
abbrev pub share : Expr
share = quotient p t

abbrev pub share_slope : Expr
share_slope = quotient (difference (product dp t) p) (product t t)

-- f; along t it gives f.t + f.p*d.p
abbrev pub function_slope : Expr
function_slope = sum (symbol (codes "f.t")) (product (symbol (codes "f.p")) dp)
