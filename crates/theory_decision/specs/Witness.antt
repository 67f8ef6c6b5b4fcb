-- A point of a formula along the path of a hit, value by value from the last step to the first. Source: this project's own.
use Rattle.std.specs.Prelude.{◌≡◌, ℕ, ◌⊎◌, ◌≤◌, ◌==◌, not, Bool, true, false, List, [], ◌∷◌, map, filter, find, Contains, Option, Some}
use Rattle.theory_meaning.specs.declared.words.Kind.{Kind}
use Rattle.theory_meaning.specs.declared.words.Sign.TheVariants.{Zero}
use Rattle.theory_meaning.specs.Fraction.{Fraction, IsSame}
use Rattle.theory_meaning.specs.Limits.{IsWithin, IsReduced, IsWide}
use Rattle.theory_decision.specs.Candidates.{IsAscending, AreCandidates}
use Rattle.theory_polynomial.specs.Polynomial.{Monomial}
use Rattle.theory_polynomial.specs.PolynomialValue.{Values, symbol_at, IsRestriction, IsWideRestriction}
use Rattle.theory_formula.specs.Formula.{Formula, Formulas, always, never, atom, conjunction, disjunction, none, more, sign_at, truth_at}
use Rattle.theory_formula.specs.Symbols.{SomeAtom, IsFree}
use Rattle.theory_formula.specs.SignCondition.{IsAtomOf}
use Rattle.theory_elimination.specs.Branches.{IsBranch}
use Rattle.theory_elimination.specs.Elimination.{with_value}
use Rattle.theory_signed.specs.ByKind.{simplified_for}
use Rattle.theory_decision.specs.Choice.{Symbols, is_one_of, symbols_from, IsCandidate}
use Rattle.theory_decision.specs.Search.{Step}

-- only the first n symbols occur
abbrev pub IsOver : ℕ → Formula → Type 0
IsOver n F = (x : ℕ) → n ≤ x → IsFree x F

-- the path leads from the formula to one that is true everywhere
abbrev pub IsHit : Kind → Formula → List Step → Type 0
IsHit kind F [] = simplified_for kind F ≡ always
IsHit kind F (s ∷ path) =
    (s.formula ≡ simplified_for kind F) × IsCandidate [] s.formula s.symbol
    × (k : ℕ) × (G : Formula) × IsBranch s.symbol s.formula k G × IsHit kind G path

-- the point that gives this value to one symbol, and 0 to every other
abbrev pub only_at : ℕ → Fraction → Values
only_at x q = with_value x q []

-- the polynomial of some atom is zero there
abbrev pub IsRoot : ℕ → Formula → Fraction → Type 0
IsRoot x F q = SomeAtom (λ P S. sign_at P (only_at x q) ≡ Zero) F

-- the roots of a formula in one symbol, upwards and each once
pub record AreRoots (x : ℕ) (F : Formula) (bs : List Fraction) : Type 0 where
  pub ascending : IsAscending bs
  pub only_roots : (b : Fraction) → Contains bs b → IsRoot x F b
  pub all_roots : (q : Fraction) → IsRoot x F q → (b : Fraction) × Contains bs b × IsSame b q

-- the first value in the written order at which a formula in one symbol is true
abbrev pub IsPick : ℕ → Formula → Option Fraction → Type 0
IsPick x F o =
    (bs : List Fraction) × (cs : List Fraction) × AreRoots x F bs × AreCandidates bs cs × (o ≡ find (λ q. truth_at F (only_at x q)) cs)

-- a polynomial restricted to values of symbols, one after the other
abbrev pub IsAtValues : List (ℕ × Fraction) → List Monomial → List Monomial → Type 0
IsAtValues [] P r = r ≡ P
IsAtValues (a ∷ vs) P r = (m : List Monomial) × IsRestriction a.0 a.1 P m × IsAtValues vs m r

-- some step of this passes a limit
abbrev pub IsWideAtValues : List (ℕ × Fraction) → List Monomial → Type 0
IsWideAtValues [] P = ⊥
IsWideAtValues (a ∷ vs) P = IsWideRestriction a.0 a.1 P ⊎ ((m : List Monomial) × IsRestriction a.0 a.1 P m × IsWideAtValues vs m)

-- a formula restricted to them, atom by atom
abbrev mutual
  pub IsFormulaAtValues : List (ℕ × Fraction) → Formula → Formula → Type 0
  IsFormulaAtValues vs always G = G ≡ always
  IsFormulaAtValues vs never G = G ≡ never
  IsFormulaAtValues vs (atom P S) G = (r : List Monomial) × IsAtValues vs P r × IsAtomOf r S G
  IsFormulaAtValues vs (conjunction Fs) G = (Gs : Formulas) × AreFormulasAtValues vs Fs Gs × (G ≡ conjunction Gs)
  IsFormulaAtValues vs (disjunction Fs) G = (Gs : Formulas) × AreFormulasAtValues vs Fs Gs × (G ≡ disjunction Gs)

  pub AreFormulasAtValues : List (ℕ × Fraction) → Formulas → Formulas → Type 0
  AreFormulasAtValues vs none Gs = Gs ≡ none
  AreFormulasAtValues vs (more F Fs) Gs =
      (G : Formula) × (Hs : Formulas) × IsFormulaAtValues vs F G × AreFormulasAtValues vs Fs Hs × (Gs ≡ more G Hs)

-- of the first n symbols all but one, upwards, with their values at a point
abbrev pub other_values : ℕ → ℕ → Values → List (ℕ × Fraction)
other_values n x p = map (λ y. (y, symbol_at y p)) (filter (λ y. not (y == x)) (symbols_from 0 n))

-- what is picked for the symbol of a step where the others have their values
abbrev pub IsPickAt : ℕ → Step → Values → Option Fraction → Type 0
IsPickAt n s p o = (R : Formula) × IsFormulaAtValues (other_values n s.symbol p) s.formula R × IsPick s.symbol R o

-- the restriction of some atom passes a limit
abbrev pub IsWideStep : ℕ → Step → Values → Type 0
IsWideStep n s p = SomeAtom (λ P S. IsWideAtValues (other_values n s.symbol p) P) s.formula

-- the picked value, in lowest terms and within the bound, where no restriction passes a limit
pub record IsValue (n : ℕ) (s : Step) (p : Values) (v : Fraction) : Type 0 where
  pub picked : Fraction
  pub pick : IsPickAt n s p (Some picked)
  pub equal : IsSame v picked
  pub within : IsWithin v
  pub reduced : IsReduced v
  pub narrow : ¬ IsWideStep n s p

-- a step adds a value for its symbol, where that has none yet
abbrev pub AddsValue : Bool → ℕ → Step → Symbols → Values → Symbols → Values → Type 0
AddsValue true n s g q given p = (given ≡ g) × (p ≡ q)
AddsValue false n s g q given p = (v : Fraction) × IsValue n s q v × (given ≡ s.symbol ∷ g) × (p ≡ with_value s.symbol v q)

-- the symbols, of the first n, that have a value after the steps of a path, and the point with these and 0 elsewhere
abbrev pub IsWitness : ℕ → List Step → Symbols → Values → Type 0
IsWitness n [] given p = (given ≡ []) × (p ≡ [])
IsWitness n (s ∷ path) given p =
    (g : Symbols) × (q : Values) × IsWitness n path g q × AddsValue (is_one_of g s.symbol) n s g q given p

-- at some step that adds a value a restriction passes a limit, or the picked value does
abbrev pub IsWideWitness : ℕ → List Step → Type 0
IsWideWitness n [] = ⊥
IsWideWitness n (s ∷ path) =
    IsWideWitness n path ⊎ ((g : Symbols) × (q : Values) × IsWitness n path g q × (is_one_of g s.symbol ≡ false)
    × (IsWideStep n s q ⊎ ((v : Fraction) × IsPickAt n s q (Some v) × IsWide v)))
