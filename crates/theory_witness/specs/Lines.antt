-- Polynomials that hold one symbol alone and are linear in it, as lines over the whole numbers. Source: textbook.
use Rattle.std.specs.Prelude.{◌≡◌, ◌≢◌, ℕ, ◌≤◌, ℤ, pos, ◌+ℤ◌, ◌*ℤ◌, List, Option, Some, None, unsigned_abs}
use Rattle.theory_meaning.specs.Fraction.{Fraction, den}
use Rattle.theory_meaning.specs.Limits.{bound}
use Rattle.theory_formula.specs.declared.signs.Signs.{Signs}
use Rattle.theory_polynomial.specs.Polynomial.{Monomial, IsFreeOf}
use Rattle.theory_formula.specs.Signs.{sign_of_whole}
use Rattle.theory_formula.specs.Formula.{Formula, sign_at, EachAtom}
use Rattle.theory_elimination.specs.Elimination.{IsLinearAtom}
use Rattle.theory_decision.specs.Witness.{only_at}
use Rattle.theory_witness.specs.declared.line.Line.{Line}

-- an atom's polynomial is linear in the symbol, and holds no other one
pub record HoldsOnly (x : ℕ) (P : List Monomial) (S : Signs) : Type 0 where
  pub linear : IsLinearAtom x P S
  pub alone : (y : ℕ) → y ≢ x → IsFreeOf y P

-- the formula is linear in the symbol, and no other one occurs
abbrev pub IsInOne : ℕ → Formula → Type 0
IsInOne x F = EachAtom (HoldsOnly x) F

-- the coefficient of a term, 0 where there is none
abbrev pub coefficient_of : Option Monomial → ℤ
coefficient_of (Some t) = t.coefficient
coefficient_of None = pos 0

-- what the line is at a fraction, times its denominator
abbrev pub height : Line → Fraction → ℤ
height l v = (l.slope *ℤ v.num) +ℤ (l.base *ℤ pos (den v))

-- parts within the bound
pub record IsKeptLine (l : Line) : Type 0 where
  pub slope : unsigned_abs l.slope ≤ bound
  pub base : unsigned_abs l.base ≤ bound

-- the line has the sign of the polynomial at every value of the symbol, and rises or falls
pub record IsLineOf (x : ℕ) (P : List Monomial) (l : Line) : Type 0 where
  pub kept : IsKeptLine l
  pub sloped : l.slope ≢ pos 0
  pub sign : (v : Fraction) → sign_at P (only_at x v) ≡ sign_of_whole (height l v)
