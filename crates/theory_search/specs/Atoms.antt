-- The atoms of a formula as a list of the program.
use Rattle.std.specs.Prelude.{◌≡◌, ℕ, Bool, nat_lt, not, ◌&&◌, false, List, ◌++◌, map}
use Rattle.std.specs.List.{list_any}
use Rattle.std.specs.Borrow.{Bor}
use Rattle.theory_formula.specs.declared.signs.Signs.{Signs}
use Rattle.theory_polynomial.specs.Polynomial.{Monomial, degree_in}
use Rattle.theory_formula.specs.Formula.{Formula, Formulas, EachAtomOfAll}
use Rattle.theory_formula.specs.FormulaAtoms.{atoms_of, atoms_of_all}
use Rattle.theory_formula.specs.SignCondition.{IsAtomPolynomial}
use Rattle.theory_formula.specs.Symbols.{IsProper}
use Rattle.theory_elimination.specs.TestPoint.{holds_symbol}
use Rattle.theory_decision.specs.Choice.{Symbols, is_one_of}
use Rattle.theory_signs.specs.declared.atom.Atom.{Atom}

-- an atom as a polynomial with its signs
abbrev pub row_of : Bor Atom → List Monomial × Signs
row_of a = (a.now.poly, a.now.signs)

-- atoms in their order
abbrev pub rows_of : List (Bor Atom) → List (List Monomial × Signs)
rows_of = map row_of

-- some atom holds the symbol, and it isn't one to keep
abbrev pub is_other : Symbols → List (List Monomial × Signs) → ℕ → Bool
is_other keep rows x = not (is_one_of keep x) && list_any (λ a. holds_symbol x a.0) rows

-- the degree of the symbol is at most 1 in each
abbrev pub IsStraight : ℕ → List (List Monomial × Signs) → Type 0
IsStraight x rows = list_any (λ a. nat_lt 1 (degree_in x a.0)) rows ≡ false

-- the atoms of the formula come behind those of before, and each is proper
pub record AddsAtoms (F : Formula) (old new : List (Bor Atom)) : Type 0 where
  pub grown : rows_of new ≡ rows_of old ++ atoms_of F
  pub proper : IsProper F

-- the same of several formulas
pub record AddsAtomsOfAll (Fs : Formulas) (old new : List (Bor Atom)) : Type 0 where
  pub grown : rows_of new ≡ rows_of old ++ atoms_of_all Fs
  pub proper : EachAtomOfAll (λ P S. IsAtomPolynomial P) Fs
