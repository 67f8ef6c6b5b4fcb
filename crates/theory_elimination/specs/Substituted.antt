-- A formula at a test point of a symbol.
-- Source: Loos and Weispfenning, Applying Linear Quantifier Elimination, 1993; guards by sign are this project's own.
use Rattle.std.specs.Prelude.{◌≡◌, ℕ, Bool, true, false, List, Option, None, Some}
use Rattle.theory_meaning.specs.declared.words.Sign.{Sign}
use Rattle.theory_meaning.specs.declared.words.Sign.TheVariants.{Minus}
use Rattle.theory_formula.specs.declared.signs.Signs.{Signs}
use Rattle.theory_formula.specs.declared.signs.Signs.TheVariants as set
use Rattle.theory_formula.specs.Signs.{mirror, without_zero}
use Rattle.theory_polynomial.specs.Polynomial.{Monomial, IsPrimitiveOf, cross_of}
use Rattle.theory_formula.specs.Formula.{Formula, Formulas, always, never, atom, conjunction, disjunction, none, more, both, either}
use Rattle.theory_formula.specs.SignCondition.{IsAtomOf}
use Rattle.theory_elimination.specs.TestPoint.{TestPoint, infinity, root, before, holds_symbol}
use Rattle.theory_polynomial.specs.PolynomialValue.{slope_in, base_in}

-- the condition on a polynomial, which is never true where no sign is left
abbrev pub IsConditionOn : List Monomial → Option Signs → Formula → Type 0
IsConditionOn P None F = F ≡ never
IsConditionOn P (Some S) F = IsAtomOf P S F

-- the set as it is for a positive slope, and its mirror for a negative one
abbrev pub along_slope : Sign → Signs → Signs
along_slope Minus S = mirror S
along_slope s S = S

-- what is left of a*base' - slope'*b: where a is positive, the sign of the other line at the root of this one
abbrev pub IsCrossOf : List Monomial → List Monomial → List Monomial → List Monomial → List Monomial → Type 0
IsCrossOf a b slope base q = IsPrimitiveOf (cross_of a base slope b) q

-- the condition where the symbol is beyond every root: by the sign of the slope, and where that is zero by the base
pub record IsAtInfinity (slope base : List Monomial) (S : Signs) (F : Formula) : Type 0 where
  pub by_slope : Formula
  pub flat : Formula
  pub by_base : Formula
  pub slope_is : IsConditionOn slope (without_zero S) by_slope
  pub flat_is : IsAtomOf slope set.Zero flat
  pub base_is : IsAtomOf base S by_base
  pub written : F ≡ either by_slope (both flat by_base)

-- the condition where the symbol is the root of a line
pub record IsAtRoot (a b : List Monomial) (s : Sign) (slope base : List Monomial) (S : Signs) (F : Formula) : Type 0 where
  pub q : List Monomial
  pub cross : IsCrossOf a b slope base q
  pub written : IsAtomOf q (along_slope s S) F

-- just before that root: by the sign there, and where that is zero by the opposite of the slope's
pub record IsJustBefore (a b : List Monomial) (s : Sign) (slope base : List Monomial) (S : Signs) (F : Formula) : Type 0 where
  pub q : List Monomial
  pub cross : IsCrossOf a b slope base q
  pub there : Formula
  pub zero : Formula
  pub falling : Formula
  pub there_is : IsConditionOn q (without_zero (along_slope s S)) there
  pub zero_is : IsAtomOf q set.Zero zero
  pub falling_is : IsAtomOf slope (mirror S) falling
  pub written : F ≡ either there (both zero falling)

-- the condition with this slope and base at the test point
abbrev pub IsLineAt : TestPoint → List Monomial → List Monomial → Signs → Formula → Type 0
IsLineAt infinity slope base S F = IsAtInfinity slope base S F
IsLineAt (root a b s) slope base S F = IsAtRoot a b s slope base S F
IsLineAt (before a b s) slope base S F = IsJustBefore a b s slope base S F

-- an atom at the test point, as it is where the symbol doesn't occur in it
abbrev pub IsAtomWhere : Bool → ℕ → TestPoint → List Monomial → Signs → Formula → Type 0
IsAtomWhere true x point P S F = IsLineAt point (slope_in x P) (base_in x P) S F
IsAtomWhere false x point P S F = F ≡ atom P S

-- an atom at the test point
abbrev pub IsAtomAt : ℕ → TestPoint → List Monomial → Signs → Formula → Type 0
IsAtomAt x point P S F = IsAtomWhere (holds_symbol x P) x point P S F

-- a formula at the test point, atom by atom
abbrev mutual
  pub IsFormulaAt : ℕ → TestPoint → Formula → Formula → Type 0
  IsFormulaAt x point always G = G ≡ always
  IsFormulaAt x point never G = G ≡ never
  IsFormulaAt x point (atom P S) G = IsAtomAt x point P S G
  IsFormulaAt x point (conjunction Fs) G = (Gs : Formulas) × AreFormulasAt x point Fs Gs × (G ≡ conjunction Gs)
  IsFormulaAt x point (disjunction Fs) G = (Gs : Formulas) × AreFormulasAt x point Fs Gs × (G ≡ disjunction Gs)

  pub AreFormulasAt : ℕ → TestPoint → Formulas → Formulas → Type 0
  AreFormulasAt x point none Gs = Gs ≡ none
  AreFormulasAt x point (more F Fs) Gs =
      (G : Formula) × (Hs : Formulas) × IsFormulaAt x point F G × AreFormulasAt x point Fs Hs × (Gs ≡ more G Hs)
