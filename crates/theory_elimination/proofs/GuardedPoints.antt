-- The branches at test points: a true one gives a value of the symbol, and each point of the formula is one of some branch.
use Rattle.std.proofs.Common.{◌≡◌, ℕ, Bool, true, false, List, [], ◌∷◌, refl, sym, ap, ◌∙◌, subst, inl, inr}
use Rattle.std.specs.Prelude.{◌&&◌, IsTrue}
use Rattle.theory_meaning.specs.declared.words.Sign.{Sign}
use Rattle.theory_meaning.specs.declared.words.Sign.TheVariants.{Zero}
use Rattle.theory_meaning.specs.Fraction.{Fraction}
use Rattle.theory_formula.specs.Signs.{has}
use Rattle.theory_polynomial.specs.Polynomial.{Monomial, IsPolynomial}
use Rattle.theory_polynomial.specs.PolynomialValue.{Values, symbol_at}
use Rattle.theory_formula.specs.Formula.{Formula, sign_at, truth_at, truth_by, IsTrueAt, StaysTrue}
use Rattle.theory_formula.specs.FormulaAtoms.{atoms_of}
use Rattle.theory_formula.specs.SignCondition.{IsAtomOf}
use Rattle.theory_formula.proofs.ConditionLaws.{condition_truth}
use Rattle.theory_elimination.specs.TestPoint.{TestPoint, infinity, root, before, ends_of_atoms, test_points}
use Rattle.theory_elimination.specs.Branches.{only, Plan, plan_at, IsGuarded, IsWrittenBy}
use Rattle.theory_elimination.specs.Elimination.{with_value, IsLinearAtom, IsLinear}
use Rattle.theory_elimination.proofs.Cuts.{Cut, top, on, just_before}
use Rattle.theory_elimination.proofs.Near.{IsOpen, HaveSigns, some_value}
use Rattle.theory_elimination.proofs.PartLaws.{only_own, only_has}
use Rattle.theory_elimination.proofs.LineSigns.{line_of}
use Rattle.theory_elimination.proofs.SubstitutedTruth.{cut_of, HasGuard, reading_cut, formula_truth}
use Rattle.theory_elimination.proofs.AtomLists.{Row, EachRow, rows_of_atoms, atoms_of_rows, at_own_value, at_given_value}
use Rattle.theory_elimination.proofs.PointLists.{SomePoint, EachPoint, IsFit, some_of_first, each_of_first, fit_of_atoms}
use Rattle.theory_elimination.proofs.LeastEnd.{IsAtEnd, true_at_end}
use Rattle.theory_formula.proofs.FormulaLaws.{kept}

pub first_of_two : (a b : Bool) → IsTrue (a && (b && true)) → IsTrue a
first_of_two true b h = refl
first_of_two false b h = absurd cc

pub second_of_two : (a b : Bool) → IsTrue (a && (b && true)) → IsTrue b
second_of_two true true h = refl
second_of_two true false h = absurd cc
second_of_two false b h = absurd cc

two_are_true : (a b : Bool) → IsTrue a → IsTrue b → IsTrue (a && (b && true))
two_are_true true true h k = refl
two_are_true true false h k = absurd cc
two_are_true false b h k = absurd cc

-- a value at which the formula is true
abbrev pub HasValue : ℕ → Values → Formula → Type 0
HasValue x p F = (v : Fraction) × IsTrueAt F (with_value x v p)

module _ (x : ℕ) (p : Values) where
  -- a formula that is true at a cut is true at some value
  signs_of_rows : (c : Cut) (w : Fraction) (rows : List Row) → HaveSigns (λ (a : Row). line_of x p a.0) c w rows
      → EachRow (StaysTrue (reading_cut x p c) (reading_cut x p (on w))) rows
  signs_of_rows c w [] h = tt
  signs_of_rows c w (a ∷ rows) h = (λ t. ap (has a.1) h.0 ∙ t, signs_of_rows c w rows h.1)

  open_value : (c : Cut) (F : Formula) → IsOpen c → IsLinear x F → IsTrue (truth_by (reading_cut x p c) F) → HasValue x p F
  open_value c F o h t =
      let near = some_value (λ (a : Row). line_of x p a.0) c (atoms_of F) o in
      let stays = atoms_of_rows (StaysTrue (reading_cut x p c) (reading_cut x p (on near.0))) F (signs_of_rows c near.0 (atoms_of F) near.1) in
      (near.0, at_given_value x p near.0 F h (kept F (reading_cut x p c) (reading_cut x p (on near.0)) stays t))

  pub cut_value : (c : Cut) (F : Formula) → IsLinear x F → IsTrue (truth_by (reading_cut x p c) F) → HasValue x p F
  cut_value top F h t = open_value top F tt h t
  cut_value (on v) F h t = (v, at_given_value x p v F h t)
  cut_value (just_before v) F h t = open_value (just_before v) F tt h t

  -- the guard is true exactly where the slope has the sign
  pub guard_sign : (a : List Monomial) (s : Sign) (F : Formula) → IsPolynomial a → IsAtomOf a (only s) F → IsTrueAt F p → sign_at a p ≡ s
  guard_sign a s F h w t = only_has s (sign_at a p) (sym (condition_truth a (only s) F p h w) ∙ t)

  guard_true : (a : List Monomial) (s : Sign) (F : Formula) → IsPolynomial a → IsAtomOf a (only s) F → sign_at a p ≡ s → IsTrueAt F p
  guard_true a s F h w e = condition_truth a (only s) F p h w ∙ ap (has (only s)) e ∙ only_own s

  -- a test point whose guard is true, and at whose cut the formula is
  abbrev pub IsGood : Formula → TestPoint → Type 0
  IsGood F point = IsFit point × HasGuard p point × IsTrue (truth_by (reading_cut x p (cut_of p point)) F)

  abbrev IsSloped : Sign → Type 0
  IsSloped s = s ≡ Zero → ⊥

  -- a guarded branch, both ways
  pub guarded_sound : (point : TestPoint) (a : List Monomial) (s : Sign) (F G : Formula) → IsPolynomial a → ((sign_at a p ≡ s) → HasGuard p point)
      → IsLinear x F → IsGuarded x point a s F G → IsTrueAt G p → IsTrue (truth_by (reading_cut x p (cut_of p point)) F)
  guarded_sound point a s F G h g l w t =
      let parts : IsTrue (truth_at w.guard p && (truth_at w.there p && true)) = ap (λ (H : Formula). truth_at H p) (sym w.written) ∙ t in
      let sign = guard_sign a s w.guard h w.guard_is (first_of_two (truth_at w.guard p) (truth_at w.there p) parts) in
      sym (formula_truth x p point (g sign) F w.there l w.there_is) ∙ second_of_two (truth_at w.guard p) (truth_at w.there p) parts

  pub guarded_complete : (point : TestPoint) (a : List Monomial) (s : Sign) (F G : Formula) → IsPolynomial a → sign_at a p ≡ s → HasGuard p point
      → IsLinear x F → IsGuarded x point a s F G → IsTrue (truth_by (reading_cut x p (cut_of p point)) F) → IsTrueAt G p
  guarded_complete point a s F G h e g l w t =
      ap (λ (H : Formula). truth_at H p) w.written
      ∙ two_are_true (truth_at w.guard p) (truth_at w.there p) (guard_true a s w.guard h w.guard_is e) (formula_truth x p point g F w.there l w.there_is ∙ t)

  -- what is written by a plan is true only where the formula has a value, or at this point
  abbrev pub IsSound : Formula → Plan → Type 0
  IsSound F plan = (G : Formula) → IsWrittenBy x plan G → IsTrueAt G p → HasValue x p F

  abbrev pub IsTrueHere : Plan → Type 0
  IsTrueHere plan = (G : Formula) → IsWrittenBy x plan G → IsTrueAt G p

  pub branch_sound : (F : Formula) → IsLinear x F → (point : TestPoint) → IsFit point → IsSound F (plan_at F point)
  branch_sound F l infinity f G w t = cut_value top F l (sym (formula_truth x p infinity tt F G l w) ∙ t)
  branch_sound F l (root a b s) f G w t =
      cut_value (cut_of p (root a b s)) F l (guarded_sound (root a b s) a s F G f.0 (λ e. (e, f.2)) l w t)
  branch_sound F l (before a b s) f G w t =
      cut_value (cut_of p (before a b s)) F l (guarded_sound (before a b s) a s F G f.0 (λ e. (e, f.2)) l w t)

  pub branch_complete : (F : Formula) → IsLinear x F → (point : TestPoint) → IsGood F point → IsTrueHere (plan_at F point)
  branch_complete F l infinity g G w = formula_truth x p infinity tt F G l w ∙ g.2
  branch_complete F l (root a b s) g G w = guarded_complete (root a b s) a s F G g.0.0 g.1.0 g.1 l w g.2
  branch_complete F l (before a b s) g G w = guarded_complete (before a b s) a s F G g.0.0 g.1.0 g.1 l w g.2

  -- an end is a good test point
  good_end : (F : Formula) (c : Cut) (points : List TestPoint) → EachPoint IsFit points → IsTrue (truth_by (reading_cut x p c) F)
      → SomePoint (IsAtEnd x p (symbol_at x p) c) points → SomePoint (IsGood F) points
  good_end F c [] f t h = absurd h
  good_end F c (point ∷ points) f t (inl h) = inl (f.0, h.0, subst (λ (d : Cut). IsTrue (truth_by (reading_cut x p d) F)) (sym h.1) t)
  good_end F c (point ∷ points) f t (inr h) = inr (good_end F c points f.1 t h)

  pub some_good : (F : Formula) → IsLinear x F → IsTrueAt F p → SomePoint (IsGood F) (test_points x F)
  some_good F l t =
      let e = true_at_end x p (symbol_at x p) F l (at_own_value x p F l t) in
      let ends = ends_of_atoms x (atoms_of F) in
      let fit = fit_of_atoms x (atoms_of F) (rows_of_atoms (IsLinearAtom x) F l) in
      elim e.at [
        | inl h ↦ inl (tt, tt, subst (λ (d : Cut). IsTrue (truth_by (reading_cut x p d) F)) h e.holds)
        | inr h ↦ elim (some_of_first (IsGood F) [] ends (good_end F e.cut ends fit e.holds h)) [
          | inl none_seen ↦ absurd none_seen
          | inr found ↦ inr found
        ]
      ]

  pub fit_points : (F : Formula) → IsLinear x F → EachPoint IsFit (test_points x F)
  fit_points F l = (tt, each_of_first IsFit [] (ends_of_atoms x (atoms_of F)) (fit_of_atoms x (atoms_of F) (rows_of_atoms (IsLinearAtom x) F l)))
