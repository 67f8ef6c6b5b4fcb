-- The plain steps of a path, and when a step can be given a value.
use Rattle.std.specs.Prelude.{ℕ, ◌⊎◌, List, None, Some}
use Rattle.theory_meaning.specs.declared.words.Kind.{Kind}
use Rattle.theory_formula.specs.Formula.{Formula}
use Rattle.theory_meaning.specs.Fraction.{Fraction}
use Rattle.theory_meaning.specs.Limits.{IsWide}
use Rattle.theory_polynomial.specs.PolynomialValue.{Values}
use Rattle.theory_formula.specs.Symbols.{IsProper}
use Rattle.theory_elimination.specs.Elimination.{IsLinear}
use Rattle.theory_decision.specs.Search.{Step}
use Rattle.theory_decision.specs.Witness.{IsOver, IsHit, IsPickAt, IsWideStep}
use Rattle.theory_signs.specs.Plain.{formula_of}
use Rattle.theory_signs.specs.declared.path.PathStep.{PathStep}

-- the plain step
abbrev pub step_of : PathStep → Step
step_of s = record { formula = formula_of s.formula; symbol = s.symbol }

-- the formula is one over the first n symbols and linear in the step's, and some value is picked there
pub record CanPick (n : ℕ) (s : Step) (p : Values) : Type 0 where
  pub proper : IsProper s.formula
  pub over : IsOver n s.formula
  pub linear : IsLinear s.symbol s.formula
  pub some : ¬ IsPickAt n s p None

-- the path of a hit of some formula over the first n symbols
abbrev pub IsHitPath : ℕ → List Step → Type 0
IsHitPath n path = (kind : Kind) × (F : Formula) × IsProper F × IsOver n F × IsHit kind F path

-- a restriction passes a limit, or the picked value does
abbrev pub IsWideAt : ℕ → Step → Values → Type 0
IsWideAt n s p = IsWideStep n s p ⊎ ((v : Fraction) × IsPickAt n s p (Some v) × IsWide v)
