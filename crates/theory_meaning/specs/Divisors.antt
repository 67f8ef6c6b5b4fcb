-- The divisors of expressions, claims and lines: the second parts of quotients. Source: this project's own.
use Rattle.std.specs.Prelude.{List, [], ◌∷◌, ◌++◌}
use Rattle.theory_meaning.specs.Tree.{Expr, number, symbol, sum, difference, opposite, product, power, quotient, Claim, Claims, always, never, atom, negation, conjunction, disjunction, implication, equivalence, none, more, Line, model, var, param, function, equation, assume, claim}

-- the divisors in an expression in reading order, each before those that stand inside it
abbrev pub divisors_of_expr : Expr → List Expr
divisors_of_expr (number q) = []
divisors_of_expr (symbol x) = []
divisors_of_expr (sum u v) = divisors_of_expr u ++ divisors_of_expr v
divisors_of_expr (difference u v) = divisors_of_expr u ++ divisors_of_expr v
divisors_of_expr (opposite u) = divisors_of_expr u
divisors_of_expr (product u v) = divisors_of_expr u ++ divisors_of_expr v
divisors_of_expr (power u k) = divisors_of_expr u
divisors_of_expr (quotient u v) = divisors_of_expr u ++ v ∷ divisors_of_expr v

-- the divisors in a claim, and in claims, in reading order
abbrev mutual
  pub divisors_of_claim : Claim → List Expr
  divisors_of_claim always = []
  divisors_of_claim never = []
  divisors_of_claim (atom u rel v) = divisors_of_expr u ++ divisors_of_expr v
  divisors_of_claim (negation c) = divisors_of_claim c
  divisors_of_claim (conjunction cs) = divisors_of_claims cs
  divisors_of_claim (disjunction cs) = divisors_of_claims cs
  divisors_of_claim (implication a b) = divisors_of_claim a ++ divisors_of_claim b
  divisors_of_claim (equivalence a b) = divisors_of_claim a ++ divisors_of_claim b

  pub divisors_of_claims : Claims → List Expr
  divisors_of_claims none = []
  divisors_of_claims (more c cs) = divisors_of_claim c ++ divisors_of_claims cs

-- the divisors in the formulas of a line
abbrev pub divisors_of_line : Line → List Expr
divisors_of_line (model n) = []
divisors_of_line (var x) = []
divisors_of_line (param t) = []
divisors_of_line (function f us) = []
divisors_of_line (equation label u v) = divisors_of_expr u ++ divisors_of_expr v
divisors_of_line (assume label c) = divisors_of_claim c
divisors_of_line (claim label shift c) = divisors_of_claim c
