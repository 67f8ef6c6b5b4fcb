-- What the branches of a formula in a symbol say of its values.
use Rattle.std.specs.Prelude.{◌≡◌, ℕ, zero, suc, List, ◌∷◌, Some, slice_get}
use Rattle.theory_meaning.specs.Fraction.{Fraction}
use Rattle.theory_formula.specs.declared.signs.Signs.{Signs}
use Rattle.theory_polynomial.specs.Polynomial.{Monomial, IsLinearIn}
use Rattle.theory_polynomial.specs.PolynomialValue.{Values, first_of, rest_of}
use Rattle.theory_formula.specs.SignCondition.{IsAtomPolynomial}
use Rattle.theory_formula.specs.Symbols.{IsFree}
use Rattle.theory_formula.specs.Formula.{Formula, EachAtom, IsTrueAt}
use Rattle.theory_elimination.specs.Branches.{level, branch_plans, IsBranch}

-- the point with this value of the symbol
abbrev pub with_value : ℕ → Fraction → Values → Values
with_value zero v p = v ∷ rest_of p
with_value (suc x) v p = first_of p ∷ with_value x v (rest_of p)

-- an atom's polynomial is one, and linear in the symbol
pub record IsLinearAtom (x : ℕ) (P : List Monomial) (S : Signs) : Type 0 where
  pub poly : IsAtomPolynomial P
  pub linear : IsLinearIn x P

-- each atom is linear in the symbol
abbrev pub IsLinear : ℕ → Formula → Type 0
IsLinear x F = EachAtom (IsLinearAtom x) F

-- the k-th branch is there, and true at the point
abbrev pub BranchIsTrueAt : ℕ → Formula → Values → ℕ → Type 0
BranchIsTrueAt x F p k = (G : Formula) × IsBranch x F k G × IsTrueAt G p

-- the k-th branch is that of an equation whose slope and base are zero, the third one
abbrev pub IsLevelBranch : ℕ → Formula → ℕ → Type 0
IsLevelBranch x F k = (a : List Monomial) × (b : List Monomial) × (G : Formula) × (slice_get (branch_plans x F) k ≡ Some (level a b G))
