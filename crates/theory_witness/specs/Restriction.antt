-- Words for formulas restricted to values of symbols.
use Rattle.std.specs.Prelude.{ℕ, ◌<◌, List, [], ◌∷◌}
use Rattle.theory_meaning.specs.Fraction.{Fraction}
use Rattle.theory_formula.specs.declared.signs.Signs.{Signs}
use Rattle.theory_polynomial.specs.Polynomial.{Monomial}
use Rattle.theory_formula.specs.Formula.{Formula}
use Rattle.theory_formula.specs.SignCondition.{IsAtomOf}
use Rattle.theory_formula.specs.Symbols.{SomeAtom}
use Rattle.theory_decision.specs.Witness.{IsAtValues, IsWideAtValues}

-- each symbol is one of the 32
abbrev pub AreSymbols : List (ℕ × Fraction) → Type 0
AreSymbols [] = Unit {0}
AreSymbols (a ∷ vs) = (a.0 < 32) × AreSymbols vs

-- a sign condition restricted to the values
abbrev pub IsAtomAtValues : List (ℕ × Fraction) → List Monomial → Signs → Formula → Type 0
IsAtomAtValues vs P S G = (r : List Monomial) × IsAtValues vs P r × IsAtomOf r S G

-- in some atom of the formula a restriction passes a limit
abbrev pub IsWideFormulaAtValues : List (ℕ × Fraction) → Formula → Type 0
IsWideFormulaAtValues vs F = SomeAtom (λ P S. IsWideAtValues vs P) F
