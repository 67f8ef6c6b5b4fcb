-- What is answered for one symbol: the first value that fits, in lowest terms. Source: this project's own.
use Rattle.std.specs.Prelude.{◌≡◌, ℕ, Option, None, Some}
use Rattle.theory_meaning.specs.Fraction.{Fraction, IsSame}
use Rattle.theory_meaning.specs.Limits.{IsWithin, IsReduced, IsWide}
use Rattle.theory_formula.specs.Formula.{Formula, IsTrueAt}
use Rattle.theory_decision.specs.Witness.{only_at, IsPick}
use Rattle.theory_witness.specs.declared.picking.Picked.{Picked}
use Rattle.theory_witness.specs.declared.picking.Picked.TheVariants as picked

-- the same number in lowest terms and within the bound
pub record IsWritten (q v : Fraction) : Type 0 where
  pub equal : IsSame v q
  pub within : IsWithin v
  pub reduced : IsReduced v

-- what is answered where this is the first value that fits
abbrev pub IsAnswer : Option Fraction → Picked → Type 0
IsAnswer None p = p ≡ picked.Nowhere
IsAnswer (Some q) (picked.Value v) = IsWritten q v
IsAnswer (Some q) picked.Wide = IsWide q
IsAnswer (Some q) picked.Nowhere = ⊥

-- what is answered for a formula in one symbol
abbrev pub IsPicked : ℕ → Formula → Picked → Type 0
IsPicked x F p = (o : Option Fraction) × IsPick x F o × IsAnswer o p

-- a value makes the formula true, and Nowhere is answered exactly where none does
abbrev pub IsRightPick : ℕ → Formula → Picked → Type 0
IsRightPick x F (picked.Value v) = IsTrueAt F (only_at x v)
IsRightPick x F picked.Wide = (v : Fraction) × IsTrueAt F (only_at x v)
IsRightPick x F picked.Nowhere = (v : Fraction) → ¬ IsTrueAt F (only_at x v)
