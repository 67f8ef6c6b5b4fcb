-- A list of formulas at a test point, member by member.
use Rattle.std.proofs.Common.{◌≡◌, ℕ, ◌+◌, ◌<◌, List, [], ◌∷◌, ◌++◌, length, map, drop, get_or, refl, sym, ap, ◌∙◌, subst, inr, ⊎_elim}
use Rattle.std.proofs.lemmas.List.{at_drop_more, append_assoc, map-append}
use Rattle.theory_formula.specs.Formula as plain
use Rattle.theory_formula.specs.Formula.{EachAtomOfAll, formulas_from}
use Rattle.theory_elimination.specs.TestPoint.{TestPoint, infinity, root, before}
use Rattle.theory_elimination.specs.Elimination.{IsLinearAtom}
use Rattle.theory_elimination.specs.Substituted.{IsFormulaAt, AreFormulasAt}
use Rattle.theory_elimination.specs.Widths.{IsWideAt}
use Rattle.theory_signs.specs.declared.formula.Formula.{Formula}
use Rattle.theory_signs.specs.Plain.{formula_of}
use Rattle.theory_subst.specs.Lines.{IsWideAmong}

-- a list is wide where its members behind the first are, and only there if the first isn't
pub wide_others : (x : ℕ) (p : TestPoint) (F : plain.Formula) (Fs : plain.Formulas) → IsWideAmong x p Fs → IsWideAmong x p (plain.more F Fs)
wide_others x infinity F Fs h = h
wide_others x (root a b s) F Fs h = inr h
wide_others x (before a b s) F Fs h = inr h

pub wide_behind : (x : ℕ) (p : TestPoint) (F : plain.Formula) (Fs : plain.Formulas) → ¬ IsWideAt x p F → IsWideAmong x p (plain.more F Fs) → IsWideAmong x p Fs
wide_behind x infinity F Fs fits h = h
wide_behind x (root a b s) F Fs fits h = ⊎_elim (λ (y : IsWideAt x (root a b s) F). absurd (fits y)) (λ (y : IsWideAmong x (root a b s) Fs). y) h
wide_behind x (before a b s) F Fs fits h = ⊎_elim (λ (y : IsWideAt x (before a b s) F). absurd (fits y)) (λ (y : IsWideAmong x (before a b s) Fs). y) h

-- the formulas from one place on
pub drop_step : (Fs : List Formula) (i : ℕ) (F : Formula) → i < length Fs → F ≡ get_or Fs i F
    → map formula_of (drop i Fs) ≡ formula_of F ∷ map formula_of (drop (i + 1) Fs)
drop_step Fs i F within item =
    at_drop_more (λ (Gs : List Formula). map formula_of Gs) Fs i F within ∙ ap (λ (G : Formula). map formula_of (G ∷ drop (i + 1) Fs)) (sym item)

-- what is known before one formula of a list
pub record IsReached (x : ℕ) (p : TestPoint) (all rest made : List plain.Formula) : Type 0 where
  pub linear : EachAtomOfAll (IsLinearAtom x) (formulas_from rest)
  pub written : (Gs : List plain.Formula) → AreFormulasAt x p (formulas_from rest) (formulas_from Gs)
      → AreFormulasAt x p (formulas_from all) (formulas_from (made ++ Gs))
  pub later : IsWideAmong x p (formulas_from all) → IsWideAmong x p (formulas_from rest)
  pub before : IsWideAmong x p (formulas_from rest) → IsWideAmong x p (formulas_from all)

pub reached_more : (x : ℕ) (p : TestPoint) (all rest next made grown : List plain.Formula) (F G : plain.Formula)
    → rest ≡ F ∷ next → ((Gs : List plain.Formula) → made ++ G ∷ Gs ≡ grown ++ Gs) → IsReached x p all rest made → IsFormulaAt x p F G
    → ¬ IsWideAt x p F → IsReached x p all next grown
reached_more x p all rest next made grown F G step same h written fits =
    let here : IsReached x p all (F ∷ next) made = subst (λ Fs. IsReached x p all Fs made) step h in
    record {
      linear = here.linear.1;
      written = λ Gs k. subst (λ Fs. AreFormulasAt x p (formulas_from all) (formulas_from Fs)) (same Gs)
          (here.written (G ∷ Gs) (G, formulas_from Gs, written, k, refl));
      later = λ w. wide_behind x p F (formulas_from next) fits (here.later w);
      before = λ w. here.before (wide_others x p F (formulas_from next) w);
    }

-- a member more at the end
pub grown_by_one : (old new : List Formula) (F : Formula) (Gs : List plain.Formula) → new ≡ old ++ F ∷ []
    → map formula_of old ++ formula_of F ∷ Gs ≡ map formula_of new ++ Gs
grown_by_one old new F Gs is =
    sym (ap (λ (xs : List Formula). map formula_of xs ++ Gs) is ∙ ap (λ (ys : List plain.Formula). ys ++ Gs) (map-append formula_of old (F ∷ []))
    ∙ append_assoc (map formula_of old) (formula_of F ∷ []) Gs)
