-- A formula restricted to the values of all symbols but one holds that one alone.
use Rattle.std.proofs.Common.{◌≢◌, ℕ, ◌≤◌, pos, List, sym, subst}
use Rattle.theory_meaning.specs.Fraction.{whole}
use Rattle.theory_formula.specs.declared.signs.Signs.{Signs}
use Rattle.theory_polynomial.specs.Polynomial.{Monomial, IsFreeOf}
use Rattle.theory_polynomial.specs.PolynomialValue.{Values}
use Rattle.theory_formula.specs.Formula.{Formula, Formulas, always, never, atom, conjunction, disjunction, none, more, EachAtomOfAll}
use Rattle.theory_formula.specs.SignCondition.{IsAtomOf, IsAtomPolynomial}
use Rattle.theory_formula.specs.Symbols.{IsFree, IsProper}
use Rattle.theory_formula.proofs.FreeTerms.{atom_free, free_terms, terms_lack}
use Rattle.theory_elimination.specs.Elimination.{IsLinear, IsLinearAtom}
use Rattle.theory_decision.specs.Witness.{IsOver, IsAtValues, IsFormulaAtValues, AreFormulasAtValues, other_values}
use Rattle.theory_decision.proofs.AtValues.{at_values_free, free_or_among, is_ready}
use Rattle.theory_decision.proofs.LinearStays.{at_values_stay_linear}
use Rattle.theory_witness.specs.Lines.{HoldsOnly, IsInOne}

module _ (n x : ℕ) (q : Values) where
  atom_alone : (P r : List Monomial) (T : Signs) (R : Formula) → IsAtomPolynomial P → ((y : ℕ) → n ≤ y → IsFreeOf y P)
      → IsAtValues (other_values n x q) P r → IsAtomOf r T R → (y : ℕ) → y ≢ x → IsFree y R
  atom_alone P r T R proper over w is y d =
      let zero_value = whole (pos 0) in
      let free = at_values_free y (other_values n x q) P r w
      (free_or_among n x zero_value q P y (is_ready n x zero_value q P T proper over) (λ e. d (sym e))) in
      atom_free y r T R (terms_lack y r (free_terms y r free)) is

  mutual
    formula_alone : (F R : Formula) → IsProper F → IsOver n F → IsFormulaAtValues (other_values n x q) F R → (y : ℕ) → y ≢ x → IsFree y R
    formula_alone always R h o w y d = subst (IsFree y) (sym w) tt
    formula_alone never R h o w y d = subst (IsFree y) (sym w) tt
    formula_alone (atom P T) R h o w y d = atom_alone P w.0 T R h o w.1 w.2 y d
    formula_alone (conjunction Fs) R h o w y d = subst (IsFree y) (sym w.2) (formulas_alone Fs w.0 h o w.1 y d)
    formula_alone (disjunction Fs) R h o w y d = subst (IsFree y) (sym w.2) (formulas_alone Fs w.0 h o w.1 y d)

    formulas_alone : (Fs Rs : Formulas) → EachAtomOfAll (λ P S. IsAtomPolynomial P) Fs
        → ((y : ℕ) → n ≤ y → EachAtomOfAll (λ P S. IsFreeOf y P) Fs) → AreFormulasAtValues (other_values n x q) Fs Rs
        → (y : ℕ) → y ≢ x → EachAtomOfAll (λ P S. IsFreeOf y P) Rs
    formulas_alone none Rs h o w y d = subst (EachAtomOfAll (λ P S. IsFreeOf y P)) (sym w) tt
    formulas_alone (more F Fs) Rs h o w y d =
        subst (EachAtomOfAll (λ P S. IsFreeOf y P)) (sym w.4)
        (formula_alone F w.0 h.0 (λ z l. (o z l).0) w.2 y d, formulas_alone Fs w.1 h.1 (λ z l. (o z l).1) w.3 y d)

-- linear in a symbol and free of every other
module _ (x : ℕ) where
  mutual
    in_one : (F : Formula) → IsLinear x F → ((y : ℕ) → y ≢ x → IsFree y F) → IsInOne x F
    in_one always h k = tt
    in_one never h k = tt
    in_one (atom P S) h k = record { linear = h; alone = k }
    in_one (conjunction Fs) h k = all_in_one Fs h k
    in_one (disjunction Fs) h k = all_in_one Fs h k

    all_in_one : (Fs : Formulas) → EachAtomOfAll (IsLinearAtom x) Fs → ((y : ℕ) → y ≢ x → EachAtomOfAll (λ P S. IsFreeOf y P) Fs)
        → EachAtomOfAll (HoldsOnly x) Fs
    all_in_one none h k = tt
    all_in_one (more F Fs) h k = (in_one F h.0 (λ y d. (k y d).0), all_in_one Fs h.1 (λ y d. (k y d).1))

pub restricted_in_one : (n x : ℕ) (q : Values) (F R : Formula) → IsProper F → IsOver n F → IsLinear x F → IsFormulaAtValues (other_values n x q) F R
    → IsInOne x R
restricted_in_one n x q F R h o l w = in_one x R (at_values_stay_linear x (other_values n x q) F R l w) (formula_alone n x q F R h o w)
