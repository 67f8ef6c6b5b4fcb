-- Test points of a formula: where a sign condition that is linear in a symbol may turn false as the symbol grows.
-- Source: Loos and Weispfenning, Applying Linear Quantifier Elimination, 1993; guards by sign and upper ends alone are this project's own.
use Rattle.std.specs.Prelude.{ℕ, Bool, true, false, ◌==◌, ◌&&◌, nat_lt, if◌then◌else◌, List, [], ◌∷◌, ◌++◌, Option, None, Some}
use Rattle.std.specs.List.{list_any}
use Rattle.theory_meaning.specs.declared.words.Sign.{Sign}
use Rattle.theory_meaning.specs.declared.words.Sign.TheVariants.{Minus, Zero, Plus}
use Rattle.theory_formula.specs.declared.signs.Signs.{Signs}
use Rattle.theory_formula.specs.declared.signs.Signs.TheVariants as set
use Rattle.theory_formula.specs.Signs.{sign_of_whole}
use Rattle.theory_polynomial.specs.Polynomial.{Monomial, coefficient_at, no_powers, degree_in, greatest_exponent_of}
use Rattle.theory_polynomial.specs.PolynomialValue.{slope_in, base_in}
use Rattle.theory_formula.specs.Formula.{Formula}
use Rattle.theory_formula.specs.FormulaAtoms.{atoms_of}
use Rattle.theory_elimination.specs.SameFormula.{is_same_poly}

-- the symbol occurs
abbrev pub holds_symbol : ℕ → List Monomial → Bool
holds_symbol x P = nat_lt 0 (degree_in x P)

-- plus infinity; the root of a line with this slope and base, whose slope has this sign; just before that root
pub data TestPoint : Type 0 where
  infinity : TestPoint
  root : List Monomial → List Monomial → Sign → TestPoint
  before : List Monomial → List Monomial → Sign → TestPoint

-- the upper end of the values at which a condition on a line holds, where its slope has this sign and it has an upper end
abbrev pub end_of : Signs → Sign → List Monomial → List Monomial → Option TestPoint
end_of set.Neg Plus a b = Some (before a b Plus)
end_of set.Zero Plus a b = Some (root a b Plus)
end_of set.Zero Minus a b = Some (root a b Minus)
end_of set.Pos Minus a b = Some (before a b Minus)
end_of set.NotPos Plus a b = Some (root a b Plus)
end_of set.NonZero Plus a b = Some (before a b Plus)
end_of set.NonZero Minus a b = Some (before a b Minus)
end_of set.NotNeg Minus a b = Some (root a b Minus)
end_of S s a b = None

-- a test point that may not be there, as a list
abbrev pub listed : Option TestPoint → List TestPoint
listed None = []
listed (Some point) = point ∷ []

-- no symbol occurs
abbrev pub is_constant : List Monomial → Bool
is_constant P = greatest_exponent_of P == 0

-- the sign of a polynomial in which no symbol occurs
abbrev pub constant_sign : List Monomial → Sign
constant_sign P = sign_of_whole (coefficient_at P no_powers)

-- the ends for each sign that the slope may have, plus before minus
abbrev pub ends_by_slope : Bool → Signs → List Monomial → List Monomial → List TestPoint
ends_by_slope true S a b = listed (end_of S (constant_sign a) a b)
ends_by_slope false S a b = listed (end_of S Plus a b) ++ listed (end_of S Minus a b)

-- the ends of a condition on a polynomial in which the symbol occurs
abbrev pub ends_of_atom : ℕ → List Monomial → Signs → List TestPoint
ends_of_atom x P S =
    if holds_symbol x P then ends_by_slope (is_constant (slope_in x P)) S (slope_in x P) (base_in x P) else []

-- the ends of conditions in their order
abbrev pub ends_of_atoms : ℕ → List (List Monomial × Signs) → List TestPoint
ends_of_atoms x [] = []
ends_of_atoms x (a ∷ more) = ends_of_atom x a.0 a.1 ++ ends_of_atoms x more

-- the same sign
abbrev pub is_same_sign : Sign → Sign → Bool
is_same_sign Minus Minus = true
is_same_sign Zero Zero = true
is_same_sign Plus Plus = true
is_same_sign _ _ = false

-- the same test point: the same kind, with the same slope, base and sign
abbrev pub is_same_point : TestPoint → TestPoint → Bool
is_same_point infinity infinity = true
is_same_point (root a b s) (root c d t) = is_same_poly a c && is_same_poly b d && is_same_sign s t
is_same_point (before a b s) (before c d t) = is_same_poly a c && is_same_poly b d && is_same_sign s t
is_same_point _ _ = false

-- each test point that isn't the same as an earlier one
abbrev pub first_points : List TestPoint → List TestPoint → List TestPoint
first_points seen [] = []
first_points seen (point ∷ points) =
    if list_any (is_same_point point) seen then first_points seen points else point ∷ first_points (point ∷ seen) points

-- infinity, and then the ends of the atoms in reading order
abbrev pub test_points : ℕ → Formula → List TestPoint
test_points x F = infinity ∷ first_points [] (ends_of_atoms x (atoms_of F))
