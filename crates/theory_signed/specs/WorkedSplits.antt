-- Formulas in x and y, symbols 0 and 1, with their split and simplified forms, worked out by hand.
use Rattle.std.specs.Prelude.{ℕ, List, [], ◌∷◌, ℤ, pos, negsuc, slice_set}
use Rattle.theory_polynomial.specs.Terms.{Monomial, monomial, no_powers}
use Rattle.theory_formula.specs.declared.signs.Signs.{Signs}
use Rattle.theory_formula.specs.declared.signs.Signs.TheVariants.{Neg, Zero, Pos, NotPos, NotNeg}
use Rattle.theory_formula.specs.Formula.{Formula, atom, conjunction, disjunction, formulas_from, both, either}
use Rattle.theory_elimination.specs.Facts.{Facts}
pub use Rattle.theory_elimination.specs.WorkedForms.{x, y}

-- the term c x^m y^n
abbrev pub term : ℤ → ℕ → ℕ → Monomial
term c m n = monomial c (slice_set (slice_set no_powers 0 m) 1 n)

-- x^2
abbrev pub square : List Monomial
square = term (pos 1) 2 0 ∷ []

-- x^2*y
abbrev pub square_times_y : List Monomial
square_times_y = term (pos 1) 2 1 ∷ []

-- x^3
abbrev pub cube : List Monomial
cube = term (pos 1) 3 0 ∷ []

-- x^2 + 1
abbrev pub above_a_square : List Monomial
above_a_square = term (pos 1) 2 0 ∷ term (pos 1) 0 0 ∷ []

-- x*y - 1
abbrev pub product_less_one : List Monomial
product_less_one = term (pos 1) 1 1 ∷ term (negsuc 0) 0 0 ∷ []

-- x^2*y - x, which is x times the same
abbrev pub times_x : List Monomial
times_x = term (pos 1) 2 1 ∷ term (negsuc 0) 1 0 ∷ []

-- x^3*y - x^2, which is x^2 times the same
abbrev pub times_square : List Monomial
times_square = term (pos 1) 3 1 ∷ term (negsuc 0) 2 0 ∷ []

-- x^4*y - x^3, which is x^3 times the same
abbrev pub times_cube : List Monomial
times_cube = term (pos 1) 4 1 ∷ term (negsuc 0) 3 0 ∷ []

-- x + y
abbrev pub sum : List Monomial
sum = term (pos 1) 1 0 ∷ term (pos 1) 0 1 ∷ []

-- x^2*y^4*(x + y)
abbrev pub two_squares : List Monomial
two_squares = term (pos 1) 3 4 ∷ term (pos 1) 2 5 ∷ []

-- the facts y < 0 and x >= 0
abbrev pub known : Facts
known = record { poly = y; signs = Neg } ∷ record { poly = x; signs = NotNeg } ∷ []

-- all of these
abbrev pub all : List Formula → Formula
all Fs = conjunction (formulas_from Fs)

-- some of these
abbrev pub some : List Formula → Formula
some Fs = disjunction (formulas_from Fs)

-- x times a polynomial, by the sign of x: the set of the polynomial, its mirror, and zero
abbrev pub by_sign_of_x : List Monomial → Signs → Signs → List Formula → Formula
by_sign_of_x Q S T zero = some (both (atom x Pos) (atom Q S) ∷ both (atom x Neg) (atom Q T) ∷ zero)

-- x > 0, y >= 0 and x*y + x <= 0
abbrev pub signs_decide : Formula
signs_decide = all (atom x Pos ∷ atom y NotNeg ∷ atom (term (pos 1) 1 1 ∷ term (pos 1) 1 0 ∷ []) NotPos ∷ [])

-- x > 0, and x + y <= 0 with y > 0, or y = 0
abbrev pub facts_go_down : Formula
facts_go_down = both (atom x Pos) (either (both (atom y Pos) (atom sum NotPos)) (atom y Zero))

-- x > 0, y > 0 or x + y > 0: no condition of a disjunction is a fact for another
abbrev pub side_by_side : Formula
side_by_side = some (atom x Pos ∷ atom y Pos ∷ atom sum Pos ∷ [])

-- x^2*y - x = 0 and x > 0, with the condition on x*y - 1
abbrev pub divided : Signs → Formula
divided S = all (atom times_x Zero ∷ atom x Pos ∷ atom product_less_one S ∷ [])
