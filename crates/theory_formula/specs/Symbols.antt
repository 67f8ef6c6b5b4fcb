-- Which symbols occur in a formula and are named, what is asked of its polynomials, and points that agree on its symbols.
use Rattle.std.specs.Prelude.{ℕ, ◌⊎◌, ◌≤◌, List, length}
use Rattle.theory_meaning.specs.Fraction.{IsSame}
use Rattle.theory_meaning.specs.Point.{Name}
use Rattle.theory_formula.specs.declared.signs.Signs.{Signs}
use Rattle.theory_polynomial.specs.Polynomial.{Monomial, IsFreeOf}
use Rattle.theory_polynomial.specs.PolynomialValue.{Values, symbol_at}
use Rattle.theory_formula.specs.Formula.{Formula, Formulas, always, never, atom, conjunction, disjunction, none, more, EachAtom}
use Rattle.theory_formula.specs.SignCondition.{IsAtomPolynomial}

-- a fact of some atom
abbrev mutual
  pub SomeAtom : (List Monomial → Signs → Type 0) → Formula → Type 0
  SomeAtom Q always = ⊥
  SomeAtom Q never = ⊥
  SomeAtom Q (atom P S) = Q P S
  SomeAtom Q (conjunction Fs) = SomeAtomAmong Q Fs
  SomeAtom Q (disjunction Fs) = SomeAtomAmong Q Fs

  pub SomeAtomAmong : (List Monomial → Signs → Type 0) → Formulas → Type 0
  SomeAtomAmong Q none = ⊥
  SomeAtomAmong Q (more F Fs) = SomeAtom Q F ⊎ SomeAtomAmong Q Fs

-- the symbol occurs in some atom
abbrev pub Occurs : ℕ → Formula → Type 0
Occurs x F = SomeAtom (λ P S. ¬ IsFreeOf x P) F

-- the symbol occurs in no atom
abbrev pub IsFree : ℕ → Formula → Type 0
IsFree x F = EachAtom (λ P S. IsFreeOf x P) F

-- each atom is on a canonical polynomial in which some symbol occurs
abbrev pub IsProper : Formula → Type 0
IsProper F = EachAtom (λ P S. IsAtomPolynomial P) F

-- the points give each symbol of the formula the same value
abbrev pub AgreeOnSymbols : Formula → Values → Values → Type 0
AgreeOnSymbols F p q = (x : ℕ) → Occurs x F → IsSame (symbol_at x p) (symbol_at x q)

-- no symbol occurs that isn't listed
abbrev pub IsNamed : List Name → List Monomial → Signs → Type 0
IsNamed ns P S = (x : ℕ) → length ns ≤ x → IsFreeOf x P
