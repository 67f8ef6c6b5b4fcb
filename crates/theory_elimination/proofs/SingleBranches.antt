-- A formula at a test point is one formula, and so is a branch.
use Rattle.std.proofs.Common.{◌≡◌, ℕ, true, false, List, Option, None, Some, sym, ap, ap₂, ◌∙◌, subst}
use Rattle.theory_formula.specs.declared.signs.Signs.{Signs}
use Rattle.theory_formula.specs.declared.signs.Signs.TheVariants as set
use Rattle.theory_formula.specs.Signs.{mirror, without_zero}
use Rattle.theory_polynomial.specs.Polynomial.{Monomial, cross_of}
use Rattle.theory_polynomial.specs.PolynomialValue.{slope_in, base_in}
use Rattle.theory_polynomial.proofs.SingleForms.{primitive_single}
use Rattle.theory_formula.specs.Formula.{Formula, Formulas, always, never, atom, conjunction, disjunction, none, more, both, either}
use Rattle.theory_formula.specs.SignCondition.{IsAtomOf}
use Rattle.theory_formula.proofs.ConditionLaws.{condition_single}
use Rattle.theory_elimination.specs.TestPoint.{TestPoint, infinity, root, before, holds_symbol}
use Rattle.theory_elimination.specs.Substituted.{along_slope, IsConditionOn, IsLineAt, IsAtomWhere, IsAtomAt, IsFormulaAt, AreFormulasAt}
use Rattle.theory_elimination.specs.Branches.{only, Plan, plain, guarded, level, IsWrittenBy, IsBranch}

maybe_single : (P : List Monomial) (m : Option Signs) (F G : Formula) → IsConditionOn P m F → IsConditionOn P m G → F ≡ G
maybe_single P None F G w v = w ∙ sym v
maybe_single P (Some S) F G w v = condition_single P S F G w v

line_single : (point : TestPoint) (slope base : List Monomial) (S : Signs) (F G : Formula) → IsLineAt point slope base S F
    → IsLineAt point slope base S G → F ≡ G
line_single infinity slope base S F G w v =
    w.written
    ∙ ap₂ either (maybe_single slope (without_zero S) w.by_slope v.by_slope w.slope_is v.slope_is)
    (ap₂ both (condition_single slope set.Zero w.flat v.flat w.flat_is v.flat_is) (condition_single base S w.by_base v.by_base w.base_is v.base_is))
    ∙ sym v.written
line_single (root a b s) slope base S F G w v =
    let same = primitive_single (cross_of a base slope b) w.q v.q w.cross v.cross in
    condition_single v.q (along_slope s S) F G (subst (λ (q : List Monomial). IsAtomOf q (along_slope s S) F) same w.written) v.written
line_single (before a b s) slope base S F G w v =
    let same = primitive_single (cross_of a base slope b) w.q v.q w.cross v.cross in
    w.written
    ∙ ap₂ either
    (maybe_single v.q (without_zero (along_slope s S)) w.there v.there
    (subst (λ (q : List Monomial). IsConditionOn q (without_zero (along_slope s S)) w.there) same w.there_is) v.there_is)
    (ap₂ both
    (condition_single v.q set.Zero w.zero v.zero (subst (λ (q : List Monomial). IsAtomOf q set.Zero w.zero) same w.zero_is) v.zero_is)
    (condition_single slope (mirror S) w.falling v.falling w.falling_is v.falling_is))
    ∙ sym v.written

module _ (x : ℕ) where
  atom_at_single : (point : TestPoint) (P : List Monomial) (S : Signs) (F G : Formula) → IsAtomAt x point P S F → IsAtomAt x point P S G → F ≡ G
  atom_at_single point P S F G w v =
      elim (holds_symbol x P) as (λ b. IsAtomWhere b x point P S F → IsAtomWhere b x point P S G → F ≡ G) [
        | true ↦ λ w' v'. line_single point (slope_in x P) (base_in x P) S F G w' v'
        | false ↦ λ w' v'. w' ∙ sym v'
      ] w v

  mutual
    pub formula_at_single : (point : TestPoint) (F G H : Formula) → IsFormulaAt x point F G → IsFormulaAt x point F H → G ≡ H
    formula_at_single point always G H w v = w ∙ sym v
    formula_at_single point never G H w v = w ∙ sym v
    formula_at_single point (atom P S) G H w v = atom_at_single point P S G H w v
    formula_at_single point (conjunction Fs) G H w v = w.2 ∙ ap conjunction (formulas_at_single point Fs w.0 v.0 w.1 v.1) ∙ sym v.2
    formula_at_single point (disjunction Fs) G H w v = w.2 ∙ ap disjunction (formulas_at_single point Fs w.0 v.0 w.1 v.1) ∙ sym v.2

    formulas_at_single : (point : TestPoint) (Fs Gs Hs : Formulas) → AreFormulasAt x point Fs Gs → AreFormulasAt x point Fs Hs → Gs ≡ Hs
    formulas_at_single point none Gs Hs w v = w ∙ sym v
    formulas_at_single point (more F Fs) Gs Hs w v =
        w.4 ∙ ap₂ more (formula_at_single point F w.0 v.0 w.2 v.2) (formulas_at_single point Fs w.1 v.1 w.3 v.3) ∙ sym v.4

  written_single : (plan : Plan) (G H : Formula) → IsWrittenBy x plan G → IsWrittenBy x plan H → G ≡ H
  written_single (plain point F) G H w v = formula_at_single point F G H w v
  written_single (guarded point a s F) G H w v =
      w.written
      ∙ ap₂ both (condition_single a (only s) w.guard v.guard w.guard_is v.guard_is) (formula_at_single point F w.there v.there w.there_is v.there_is)
      ∙ sym v.written
  written_single (level a b F) G H w v =
      w.written
      ∙ ap₂ (λ (A B : Formula). conjunction (more A (more B (more F none)))) (condition_single a set.Zero w.flat v.flat w.flat_is v.flat_is)
      (condition_single b set.Zero w.zero v.zero w.zero_is v.zero_is)
      ∙ sym v.written

  same_some : {A : Type 0} {a b : A} → Some a ≡ Some b → a ≡ b
  same_some e = cc

  pub branch_single : (F : Formula) (k : ℕ) (G H : Formula) → IsBranch x F k G → IsBranch x F k H → G ≡ H
  branch_single F k G H w v =
      let same : w.0 ≡ v.0 = same_some (sym w.1 ∙ v.1) in
      written_single v.0 G H (subst (λ (plan : Plan). IsWrittenBy x plan G) same w.2) v.2
