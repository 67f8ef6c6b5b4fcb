-- Test points and branches in x of formulas in x, y and z, symbols 0, 1 and 2, worked out by hand.
use Rattle.std.specs.Prelude.{List, [], ◌∷◌, pos, negsuc, slice_set}
use Rattle.theory_meaning.specs.declared.words.Sign.TheVariants.{Plus, Minus}
use Rattle.theory_formula.specs.declared.signs.Signs.TheVariants.{Neg, Zero, NotPos}
use Rattle.theory_polynomial.specs.Terms.{Monomial, monomial, no_powers, symbol_of, constant_of}
use Rattle.theory_formula.specs.Formula.{Formula, atom, conjunction, disjunction, none, more}
use Rattle.theory_elimination.specs.TestPoint.{TestPoint, infinity, root, before}
use Rattle.theory_elimination.specs.Branches.{Plan, plain, guarded, level}

-- the polynomial 1
abbrev pub one : List Monomial
one = constant_of (pos 1)

-- less y
abbrev pub less_y : List Monomial
less_y = monomial (negsuc 0) (slice_set no_powers 1 1) ∷ []

-- less z
abbrev pub less_z : List Monomial
less_z = monomial (negsuc 0) (slice_set no_powers 2 1) ∷ []

-- x - y <= 0 and x - z < 0
abbrev pub two_ends : Formula
two_ends =
    conjunction (more (atom (monomial (pos 1) (slice_set no_powers 0 1) ∷ less_y) NotPos)
    (more (atom (monomial (pos 1) (slice_set no_powers 0 1) ∷ less_z) Neg) none))

-- its test points
abbrev pub points_of_two_ends : List TestPoint
points_of_two_ends = infinity ∷ root one less_y Plus ∷ before one less_z Plus ∷ []

-- y = 0
abbrev pub y_is_zero : Formula
y_is_zero = atom (symbol_of 1) Zero

-- z = 0
abbrev pub z_is_zero : Formula
z_is_zero = atom (symbol_of 2) Zero

-- y*x - z = 0 and y = 0 and z = 0
abbrev pub vanishing : Formula
vanishing =
    conjunction (more (atom (monomial (pos 1) (slice_set (slice_set no_powers 0 1) 1 1) ∷ less_z) Zero) (more y_is_zero (more z_is_zero none)))

-- its members but the equation
abbrev pub others_of_vanishing : Formula
others_of_vanishing = conjunction (more y_is_zero (more z_is_zero none))

-- its branches: two roots, and where slope and base are zero
abbrev pub plans_of_vanishing : List Plan
plans_of_vanishing =
    guarded (root (symbol_of 1) less_z Plus) (symbol_of 1) Plus others_of_vanishing
    ∷ guarded (root (symbol_of 1) less_z Minus) (symbol_of 1) Minus others_of_vanishing
    ∷ level (symbol_of 1) less_z others_of_vanishing ∷ []

-- an equation inside an Or isn't a top equation
abbrev pub inner_equation : Formula
inner_equation = disjunction (more (atom (symbol_of 0) Zero) (more y_is_zero none))

-- its branches: at infinity, and at the root of x = 0
abbrev pub plans_of_inner : List Plan
plans_of_inner = plain infinity inner_equation ∷ guarded (root one [] Plus) one Plus inner_equation ∷ []
