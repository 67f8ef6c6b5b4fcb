-- When a cross product of a formula at a test point, or of a branch, passes a limit. Source: this project's own.
use Rattle.std.specs.Prelude.{◌≡◌, ℕ, List, Some, slice_get, IsTrue}
use Rattle.theory_formula.specs.declared.signs.Signs.{Signs}
use Rattle.theory_polynomial.specs.Polynomial.{Monomial, cross_of, IsBeyondDivided}
use Rattle.theory_formula.specs.Formula.{Formula}
use Rattle.theory_formula.specs.Symbols.{SomeAtom, SomeAtomAmong}
use Rattle.theory_elimination.specs.TestPoint.{TestPoint, infinity, root, before, holds_symbol}
use Rattle.theory_polynomial.specs.PolynomialValue.{slope_in, base_in}
use Rattle.theory_elimination.specs.Branches.{Plan, plain, guarded, level, branch_plans}

-- what is left of the cross product of this slope and base with those of an atom that holds the symbol passes a limit
abbrev pub IsWideCross : ℕ → List Monomial → List Monomial → List Monomial → Signs → Type 0
IsWideCross x a b P S = IsTrue (holds_symbol x P) × IsBeyondDivided (cross_of a (base_in x P) (slope_in x P) b)

-- some cross product of the formula at the test point passes a limit
abbrev pub IsWideAt : ℕ → TestPoint → Formula → Type 0
IsWideAt x infinity F = ⊥
IsWideAt x (root a b s) F = SomeAtom (IsWideCross x a b) F
IsWideAt x (before a b s) F = SomeAtom (IsWideCross x a b) F

-- some cross product of the branch does
abbrev pub IsWidePlan : ℕ → Plan → Type 0
IsWidePlan x (plain point F) = IsWideAt x point F
IsWidePlan x (guarded point a s F) = IsWideAt x point F
IsWidePlan x (level a b F) = ⊥

-- some cross product of the k-th branch does
abbrev pub IsWideBranch : ℕ → Formula → ℕ → Type 0
IsWideBranch x F k = (plan : Plan) × (slice_get (branch_plans x F) k ≡ Some plan) × IsWidePlan x plan
