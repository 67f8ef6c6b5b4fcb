-- Words for a line at a test point, and for lists of formulas there.
use Rattle.std.specs.Prelude.{◌≡◌, ℕ, List}
use Rattle.theory_formula.specs.declared.signs.Signs.{Signs}
use Rattle.theory_formula.specs.declared.signs.Signs.TheVariants as set
use Rattle.theory_formula.specs.Signs.{without_zero}
use Rattle.theory_polynomial.specs.Polynomial.{Monomial, cross_of, IsBeyondDivided}
use Rattle.theory_formula.specs.Formula.{Formula, Formulas, both, either}
use Rattle.theory_formula.specs.SignCondition.{IsAtomOf}
use Rattle.theory_elimination.specs.TestPoint.{TestPoint, infinity, root, before}
use Rattle.theory_elimination.specs.Substituted.{IsConditionOn}
use Rattle.theory_elimination.specs.Widths.{IsWideCross}
use Rattle.theory_formula.specs.Symbols.{SomeAtomAmong}

-- the first polynomial is in its set and not zero, or it is zero and the second is in its own
pub record IsBySign (P : List Monomial) (S : Signs) (Q : List Monomial) (T : Signs) (F : Formula) : Type 0 where
  pub first : Formula
  pub zero : Formula
  pub second : Formula
  pub first_is : IsConditionOn P (without_zero S) first
  pub zero_is : IsAtomOf P set.Zero zero
  pub second_is : IsAtomOf Q T second
  pub written : F ≡ either first (both zero second)

-- the cross product of a line with this slope and base passes a limit
abbrev pub IsWideLine : TestPoint → List Monomial → List Monomial → Type 0
IsWideLine infinity slope base = ⊥
IsWideLine (root a b s) slope base = IsBeyondDivided (cross_of a base slope b)
IsWideLine (before a b s) slope base = IsBeyondDivided (cross_of a base slope b)

-- some cross product of a list does
abbrev pub IsWideAmong : ℕ → TestPoint → Formulas → Type 0
IsWideAmong x infinity Fs = ⊥
IsWideAmong x (root a b s) Fs = SomeAtomAmong (IsWideCross x a b) Fs
IsWideAmong x (before a b s) Fs = SomeAtomAmong (IsWideCross x a b) Fs
