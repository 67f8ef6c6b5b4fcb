-- The lowered formula of claims: that no divisor is zero, and their normal form, with each comparison as sign conditions.
-- Source: this project's own; symbol k stands for the k-th of the listed names, counted from 0.
use Rattle.std.specs.Prelude.{◌≡◌, ℕ, zero, suc, ◌⊎◌, List, [], ◌∷◌, map, if◌then◌else◌}
use Rattle.std.specs.Str.{bytes_eq}
use Rattle.theory_meaning.specs.declared.words.Rel.{Rel}
use Rattle.theory_meaning.specs.Divisors.{divisors_of_claims}
use Rattle.theory_meaning.specs.Fraction.{den}
use Rattle.theory_meaning.specs.Point.{Name, Point, value_at}
use Rattle.theory_meaning.specs.Tree.{Expr, number, symbol, sum, difference, opposite, product, power, quotient, Claim, Claims, claims_from}
use Rattle.theory_meaning.specs.Tree as claim
use Rattle.theory_polynomial.specs.Polynomial.{constant_of, symbol_of}
use Rattle.theory_polynomial.specs.PolynomialValue.{Values}
use Rattle.theory_polynomial.specs.RationalPolynomial.{sum_of_quotients, difference_of_quotients}
use Rattle.theory_formula.specs.declared.signs.Signs.{Signs}
use Rattle.theory_formula.specs.declared.signs.Signs.TheVariants as set
use Rattle.theory_formula.specs.Signs.{signs_of, mirror}
use Rattle.theory_formula.specs.Formula.{Formula, Formulas, always, never, conjunction, disjunction, none, more, both, either}
use Rattle.theory_formula.specs.SignCondition.{IsAtomOf}
use Rattle.theory_lowering.specs.NormalForm.{normal_forms}
use Rattle.theory_lowering.specs.RationalFunction.{RationalFunction, over, one, IsFractionOf, IsJoinOf, IsOppositeOf, IsProductOf, IsPowerOf, IsQuotientOf}

-- the place of a name in a list, past the last where it isn't there
abbrev pub place_of : Name → List Name → ℕ
place_of x [] = zero
place_of x (y ∷ ns) = if bytes_eq y x then zero else suc (place_of x ns)

-- the values of the listed names
abbrev pub values_of : List Name → Point → Values
values_of ns p = map (value_at p) ns

-- what an operation gives for two rational functions
abbrev pub IsResultOf : (RationalFunction → RationalFunction → RationalFunction → Type 0) → (RationalFunction → Type 0) → (RationalFunction → Type 0)
    → RationalFunction → Type 0
IsResultOf Op A B r = (a : RationalFunction) × (b : RationalFunction) × A a × B b × Op a b r

-- the rational function that an expression is
abbrev pub IsFormOf : List Name → Expr → RationalFunction → Type 0
IsFormOf ns (number q) r = IsFractionOf (over (constant_of q.num) (den q)) one r
IsFormOf ns (symbol x) r = IsFractionOf (over (symbol_of (place_of x ns)) 1) one r
IsFormOf ns (sum u v) r = IsResultOf (IsJoinOf sum_of_quotients) (IsFormOf ns u) (IsFormOf ns v) r
IsFormOf ns (difference u v) r = IsResultOf (IsJoinOf difference_of_quotients) (IsFormOf ns u) (IsFormOf ns v) r
IsFormOf ns (opposite u) r = (a : RationalFunction) × IsFormOf ns u a × IsOppositeOf a r
IsFormOf ns (product u v) r = IsResultOf IsProductOf (IsFormOf ns u) (IsFormOf ns v) r
IsFormOf ns (power u k) r = (a : RationalFunction) × IsFormOf ns u a × IsPowerOf a k r
IsFormOf ns (quotient u v) r = IsResultOf IsQuotientOf (IsFormOf ns u) (IsFormOf ns v) r

-- the sign is that of the top: the bottom is 1, or the set doesn't tell minus from plus
abbrev pub IsByTop : RationalFunction → Signs → Type 0
IsByTop q S = (q.bottom ≡ one) ⊎ ((S ≡ set.Zero) ⊎ (S ≡ set.NonZero))

-- a positive bottom with the sign of the top in the set, or a negative one with it in the mirrored set
pub record IsByBoth (q : RationalFunction) (S : Signs) (F : Formula) : Type 0 where
  pub apart : ¬ IsByTop q S
  pub positive : Formula
  pub kept : Formula
  pub negative : Formula
  pub mirrored : Formula
  pub positive_is : IsAtomOf q.bottom set.Pos positive
  pub kept_is : IsAtomOf q.top.top S kept
  pub negative_is : IsAtomOf q.bottom set.Neg negative
  pub mirrored_is : IsAtomOf q.top.top (mirror S) mirrored
  pub written : F ≡ either (both positive kept) (both negative mirrored)

-- the formula that says that the sign of the rational function is in the set
abbrev pub IsConditionOn : RationalFunction → Signs → Formula → Type 0
IsConditionOn q S F = (IsByTop q S × IsAtomOf q.top.top S F) ⊎ IsByBoth q S F

-- a comparison is the condition on left less right
abbrev pub IsComparison : List Name → Expr → Rel → Expr → Formula → Type 0
IsComparison ns u rel v F = (q : RationalFunction) × IsFormOf ns (difference u v) q × IsConditionOn q (signs_of rel) F

-- the formula of a claim in normal form; no other claim has one
abbrev mutual
  pub IsFormulaOf : List Name → Claim → Formula → Type 0
  IsFormulaOf ns claim.always F = F ≡ always
  IsFormulaOf ns claim.never F = F ≡ never
  IsFormulaOf ns (claim.atom u rel v) F = IsComparison ns u rel v F
  IsFormulaOf ns (claim.conjunction cs) F = (Fs : Formulas) × AreFormulasOf ns cs Fs × (F ≡ conjunction Fs)
  IsFormulaOf ns (claim.disjunction cs) F = (Fs : Formulas) × AreFormulasOf ns cs Fs × (F ≡ disjunction Fs)
  IsFormulaOf ns (claim.negation c) F = ⊥
  IsFormulaOf ns (claim.implication a b) F = ⊥
  IsFormulaOf ns (claim.equivalence a b) F = ⊥

  pub AreFormulasOf : List Name → Claims → Formulas → Type 0
  AreFormulasOf ns claim.none Fs = Fs ≡ none
  AreFormulasOf ns (claim.more c cs) Fs =
      (F : Formula) × (Gs : Formulas) × IsFormulaOf ns c F × AreFormulasOf ns cs Gs × (Fs ≡ more F Gs)

-- that a divisor isn't 0: the condition on its top
abbrev pub IsNonzeroOf : List Name → Expr → Formula → Type 0
IsNonzeroOf ns v F = (q : RationalFunction) × IsFormOf ns v q × IsAtomOf q.top.top set.NonZero F

-- these conditions for several divisors
abbrev pub AreNonzeroOf : List Name → List Expr → List Formula → Type 0
AreNonzeroOf ns [] Fs = Fs ≡ []
AreNonzeroOf ns (v ∷ vs) Fs = (F : Formula) × (Gs : List Formula) × IsNonzeroOf ns v F × AreNonzeroOf ns vs Gs × (Fs ≡ F ∷ Gs)

-- the formulas of a list before others
abbrev pub before : List Formula → Formulas → Formulas
before [] Gs = Gs
before (F ∷ Fs) Gs = more F (before Fs Gs)

-- the lowered formula: that the divisors aren't 0, and then the normal forms, however many, in one conjunction
abbrev pub IsLowered : List Name → List Claim → Formula → Type 0
IsLowered ns cs F =
    (Ds : List Formula) × (Fs : Formulas) × AreNonzeroOf ns (divisors_of_claims (claims_from cs)) Ds
    × AreFormulasOf ns (normal_forms (claims_from cs)) Fs × (F ≡ conjunction (before Ds Fs))
