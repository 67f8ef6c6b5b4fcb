-- A worked example: a number between 0 and 1, and the claim that it is one half.
use Rattle.std.specs.Prelude.{List, [], ◌∷◌, pos, negsuc, codes}
use Rattle.theory_meaning.specs.declared.words.Rel.TheVariants.{Eq, Lt}
use Rattle.theory_meaning.specs.Fraction.{Fraction, whole}
use Rattle.theory_meaning.specs.Point.{Point, only_at}
use Rattle.theory_meaning.specs.Text.{Numbered}
use Rattle.theory_meaning.specs.Tree.{Expr, number, symbol, product, power, quotient, Claim, atom, var, param}

-- 1/2
abbrev pub one_half : Fraction
one_half = record { num = pos 1; less = 1 }

-- 1/3
abbrev pub one_third : Fraction
one_third = record { num = pos 1; less = 2 }

-- the third power of 1/3
abbrev pub one_twenty_seventh : Fraction
one_twenty_seventh = record { num = pos 1; less = 26 }

-- the only name of the example
abbrev pub the_variable : Expr
the_variable = symbol (codes "x")

-- the point at which it is 0
abbrev pub at_zero : Point
at_zero = only_at (codes "x") (whole (pos 0))

-- the point at which it is 1/3
abbrev pub at_one_third : Point
at_one_third = only_at (codes "x") one_third

-- the point at which it is 1/2
abbrev pub at_one_half : Point
at_one_half = only_at (codes "x") one_half

-- the point at which it is 1
abbrev pub at_one : Point
at_one = only_at (codes "x") (whole (pos 1))

-- the assumptions 0 < x and x < 1
abbrev pub between_0_and_1 : List Claim
between_0_and_1 = atom (number (whole (pos 0))) Lt the_variable ∷ atom the_variable Lt (number (whole (pos 1))) ∷ []

-- the claim x = 1/2
abbrev pub is_one_half : Claim
is_one_half = atom the_variable Eq (number one_half)

-- the lines of a model of a price p and a tax t
abbrev pub tax_lines : List Numbered
tax_lines = record { at = 2; line = var (codes "p") } ∷ record { at = 3; line = param (codes "t") } ∷ []

-- p^2*t
abbrev pub revenue : Expr
revenue = product (power (symbol (codes "p")) 2) (symbol (codes "t"))

-- p/t
abbrev pub per_unit : Expr
per_unit = quotient (symbol (codes "p")) (symbol (codes "t"))

-- t is 1, p is 2 and the slope of p is 1
abbrev pub at_a_tax : Point
at_a_tax = (codes "p", whole (pos 2)) ∷ (codes "t", whole (pos 1)) ∷ (codes "d.p", whole (pos 1)) ∷ []

-- 2*p*d.p*t + p^2 there
abbrev pub eight : Fraction
eight = whole (pos 8)

-- (d.p*t - p)/(t*t) there
abbrev pub minus_one : Fraction
minus_one = whole (negsuc 0)
