-- Candidates and searches, worked out by hand, in x and y, symbols 0 and 1.
use Rattle.std.specs.Prelude.{ℕ, List, [], ◌∷◌, replicate, Bool, true, false, Option, ℤ, pos, negsuc, slice_set}
use Rattle.theory_polynomial.specs.Terms.{Monomial, monomial, no_powers, symbol_of}
use Rattle.theory_formula.specs.declared.signs.Signs.TheVariants.{Neg, Zero, Pos}
use Rattle.theory_formula.specs.Formula.{Formula, atom, disjunction, formulas_from, both}
use Rattle.theory_decision.specs.declared.candidate.Candidate.{Candidate}
use Rattle.theory_decision.specs.Finding.{StuckAtom, Failure}
use Rattle.theory_decision.specs.Search.{Step, Progress}

-- three candidates: two atoms, one atom, and three with a plain equation
abbrev pub three : List Candidate
three =
    record { symbol = 0; atoms = 2; unit = false; unsure = 0 } ∷ record { symbol = 1; atoms = 1; unit = false; unsure = 0 }
    ∷ record { symbol = 2; atoms = 3; unit = true; unsure = 0 } ∷ []

-- three without a plain equation: one atom with an unsure slope, three sure atoms, two sure atoms
abbrev pub unsure_first : List Candidate
unsure_first =
    record { symbol = 0; atoms = 1; unit = false; unsure = 1 } ∷ record { symbol = 1; atoms = 3; unit = false; unsure = 0 }
    ∷ record { symbol = 2; atoms = 2; unit = false; unsure = 0 } ∷ []

-- two alike
abbrev pub alike : List Candidate
alike = record { symbol = 3; atoms = 2; unit = false; unsure = 1 } ∷ record { symbol = 5; atoms = 2; unit = false; unsure = 1 } ∷ []

-- the term c x^m y^n
abbrev pub term : ℤ → ℕ → ℕ → Monomial
term c m n = monomial c (slice_set (slice_set no_powers 0 m) 1 n)

-- x > 0
abbrev pub positive : Formula
positive = atom (symbol_of 0) Pos

-- its path: x is eliminated, and at infinity it is true everywhere
abbrev pub path_of_positive : List Step
path_of_positive = record { formula = positive; symbol = 0 } ∷ []

-- x < 0
abbrev pub negative : Formula
negative = atom (symbol_of 0) Neg

-- x^2 - y^2
abbrev pub square_less_square : List Monomial
square_less_square = term (pos 1) 2 0 ∷ term (negsuc 0) 0 2 ∷ []

-- x > 0 and x^2 - y^2 > 0
abbrev pub curved : Formula
curved = both positive (atom square_less_square Pos)

-- the second condition keeps both symbols from being eliminated
abbrev pub curved_atoms : List StuckAtom
curved_atoms =
    record { symbol = 0; poly = square_less_square; signs = Pos } ∷ record { symbol = 1; poly = square_less_square; signs = Pos } ∷ []

-- x*y - 1 > 0
abbrev pub hyperbola : Formula
hyperbola = atom (term (pos 1) 1 1 ∷ term (negsuc 0) 0 0 ∷ []) Pos

-- y = 0
abbrev pub level : Formula
level = atom (symbol_of 1) Zero

-- the candidates of x*y - 1 > 0 beside y = 0, where the equation is marked as unit or not
abbrev pub two : Bool → List Candidate
two b = record { symbol = 0; atoms = 1; unit = false; unsure = 1 } ∷ record { symbol = 1; atoms = 2; unit = b; unsure = 1 } ∷ []

-- that many atoms
abbrev pub of_size : ℕ → Formula
of_size n = disjunction (formulas_from (replicate n positive))

-- that many nodes visited, and perhaps a failure met
abbrev pub visits : ℕ → Option Failure → Progress
visits n f = record { visited = n; failure = f; leaves = [] }
