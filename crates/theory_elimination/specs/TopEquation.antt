-- The equation of a conjunction by which a symbol is eliminated, and the other members. Source: this project's own.
use Rattle.std.specs.Prelude.{ℕ, Bool, true, false, List, [], ◌∷◌, ◌++◌, Option, None, Some}
use Rattle.theory_formula.specs.declared.signs.Signs.TheVariants as set
use Rattle.theory_polynomial.specs.Polynomial.{Monomial}
use Rattle.theory_polynomial.specs.PolynomialValue.{slope_in}
use Rattle.theory_formula.specs.Formula.{Formula, always, atom, conjunction, formulas_list, formulas_from}
use Rattle.theory_elimination.specs.TestPoint.{holds_symbol, is_constant}

-- the polynomial where the test is met, else none
abbrev pub equation_if : Bool → List Monomial → Option (List Monomial)
equation_if true P = Some P
equation_if false P = None

-- the polynomial of a formula that is an equation in which the symbol occurs
abbrev pub equation_of : ℕ → Formula → Option (List Monomial)
equation_of x (atom P set.Zero) = equation_if (holds_symbol x P) P
equation_of x _ = None

-- the same, where the slope has no symbol
abbrev pub if_plain : ℕ → Option (List Monomial) → Option (List Monomial)
if_plain x None = None
if_plain x (Some P) = equation_if (is_constant (slope_in x P)) P

-- the polynomial of such an equation whose slope has no symbol
abbrev pub plain_equation_of : ℕ → Formula → Option (List Monomial)
plain_equation_of x F = if_plain x (equation_of x F)

-- an equation that is taken from a list, and the other members in their order
pub record Taken : Type 0 where
  pub poly : List Monomial
  pub others : List Formula

-- this member is taken where it is one, and else what comes next
abbrev pub taken_at : Option (List Monomial) → List Formula → Option Taken → Option Taken
taken_at None others next = next
taken_at (Some P) others next = Some (record { poly = P; others = others })

-- the first member that is one, behind those that aren't
abbrev pub taken_behind : (Formula → Option (List Monomial)) → List Formula → List Formula → Option Taken
taken_behind is_one passed [] = None
taken_behind is_one passed (F ∷ Fs) = taken_at (is_one F) (passed ++ Fs) (taken_behind is_one (passed ++ F ∷ []) Fs)

-- the first where there is one, else the second
abbrev pub or_else : Option Taken → Option Taken → Option Taken
or_else None second = second
or_else (Some found) second = Some found

-- the members of a conjunction, and any other formula as its own member
abbrev pub members_of : Formula → List Formula
members_of (conjunction Fs) = formulas_list Fs
members_of F = F ∷ []

-- the first equation with a slope without symbols, and else the first equation
abbrev pub top_equation : ℕ → Formula → Option Taken
top_equation x F = or_else (taken_behind (plain_equation_of x) [] (members_of F)) (taken_behind (equation_of x) [] (members_of F))

-- the other members together
abbrev pub others_of : List Formula → Formula
others_of [] = always
others_of (F ∷ Fs) = conjunction (formulas_from (F ∷ Fs))
