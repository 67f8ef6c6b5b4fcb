-- Each branch is free of the symbol, but for the one in which slope and base of an equation are zero.
use Rattle.std.proofs.Common.{◌≡◌, ℕ, Bool, true, false, List, [], ◌∷◌, Option, None, Some, refl, sym, subst, arith}
use Rattle.std.specs.Prelude.{slice_get, nat_lt, if◌then◌else◌}
use Rattle.theory_meaning.specs.declared.words.Sign.{Sign}
use Rattle.theory_meaning.specs.declared.words.Sign.TheVariants.{Minus, Zero, Plus}
use Rattle.theory_formula.specs.declared.signs.Signs.{Signs}
use Rattle.theory_formula.specs.declared.signs.Signs.TheVariants as set
use Rattle.theory_formula.specs.Signs.{mirror, without_zero}
use Rattle.theory_polynomial.specs.Polynomial.{Monomial, degree_in, IsFreeOf, cross_of}
use Rattle.theory_polynomial.proofs.FreeLaws.{LacksSymbol}
use Rattle.theory_formula.specs.Formula.{Formula, Formulas, always, never, atom, conjunction, disjunction, none, more, EachAtomOfAll}
use Rattle.theory_formula.specs.FormulaAtoms.{atoms_of}
use Rattle.theory_elimination.specs.TestPoint.{TestPoint, infinity, root, before, holds_symbol, end_of, listed, is_constant, constant_sign, ends_by_slope, ends_of_atom, ends_of_atoms, test_points}
use Rattle.theory_polynomial.specs.PolynomialValue.{slope_in, base_in}
use Rattle.theory_elimination.specs.Substituted.{IsConditionOn, along_slope, IsLineAt, IsAtomWhere, IsAtomAt, IsFormulaAt, AreFormulasAt}
use Rattle.theory_elimination.specs.Branches.{only, Plan, plain, guarded, level, plan_at, Taken, top_equation, others_of, root_plans, plans_by, branch_plans, IsWrittenBy, IsBranch}
use Rattle.theory_formula.specs.Symbols.{IsFree}
use Rattle.theory_elimination.specs.Elimination.{IsLevelBranch}
use Rattle.theory_formula.proofs.FreeTerms.{TermsLack, lack_part, lack_cross, terms_lack, primitive_lacks, atom_free}
use Rattle.theory_elimination.proofs.AtomLists.{Row}
use Rattle.theory_elimination.proofs.PointLists.{EachPoint, each_append, each_of_first}
use Rattle.theory_elimination.proofs.PlanLists.{EachPlan, each_at, each_planned}

not_above : (n : ℕ) → nat_lt 0 n ≡ false → n ≡ 0
not_above n h = grind (arith, h)

module _ (x : ℕ) where
  -- slope and base of the test point lack the symbol
  abbrev PointLacks : TestPoint → Type 0
  PointLacks infinity = Unit {0}
  PointLacks (root a b s) = TermsLack x a × TermsLack x b
  PointLacks (before a b s) = TermsLack x a × TermsLack x b

  condition_free : (P : List Monomial) (m : Option Signs) (F : Formula) → LacksSymbol x P → IsConditionOn P m F → IsFree x F
  condition_free P None F h w = subst (IsFree x) (sym w) tt
  condition_free P (Some S) F h w = atom_free x P S F h w

  line_free : (point : TestPoint) (slope base : List Monomial) (S : Signs) (G : Formula) → PointLacks point → TermsLack x slope → TermsLack x base
      → IsLineAt point slope base S G → IsFree x G
  line_free infinity slope base S G h k l w =
      subst (IsFree x) (sym w.written) (
        condition_free slope (without_zero S) w.by_slope (terms_lack x slope k) w.slope_is,
        ((atom_free x slope set.Zero w.flat (terms_lack x slope k) w.flat_is, (atom_free x base S w.by_base (terms_lack x base l) w.base_is, tt)), tt),
      )
  line_free (root a b s) slope base S G h k l w =
      atom_free x w.q (along_slope s S) G (primitive_lacks x (cross_of a base slope b) w.q (lack_cross x a base slope b h.0 l k h.1) w.cross) w.written
  line_free (before a b s) slope base S G h k l w =
      let q = primitive_lacks x (cross_of a base slope b) w.q (lack_cross x a base slope b h.0 l k h.1) w.cross in
      subst (IsFree x) (sym w.written) (
        condition_free w.q (without_zero (along_slope s S)) w.there q w.there_is,
        ((atom_free x w.q set.Zero w.zero q w.zero_is, (atom_free x slope (mirror S) w.falling (terms_lack x slope k) w.falling_is, tt)), tt),
      )

  atom_at_free : (point : TestPoint) (P : List Monomial) (S : Signs) (G : Formula) → PointLacks point → IsAtomAt x point P S G → IsFree x G
  atom_at_free point P S G h w =
      elim (holds_symbol x P) as (λ b. holds_symbol x P ≡ b → IsAtomWhere b x point P S G → IsFree x G) [
        | true ↦ λ e w'. line_free point (slope_in x P) (base_in x P) S G h (lack_part x 1 P) (lack_part x 0 P) w'
        | false ↦ λ e w'. subst (IsFree x) (sym w') (not_above (degree_in x P) e)
      ] refl w

  mutual
    formula_free : (point : TestPoint) (F G : Formula) → PointLacks point → IsFormulaAt x point F G → IsFree x G
    formula_free point always G h w = subst (IsFree x) (sym w) tt
    formula_free point never G h w = subst (IsFree x) (sym w) tt
    formula_free point (atom P S) G h w = atom_at_free point P S G h w
    formula_free point (conjunction Fs) G h w = subst (IsFree x) (sym w.2) (formulas_free point Fs w.0 h w.1)
    formula_free point (disjunction Fs) G h w = subst (IsFree x) (sym w.2) (formulas_free point Fs w.0 h w.1)

    formulas_free : (point : TestPoint) (Fs Gs : Formulas) → PointLacks point → AreFormulasAt x point Fs Gs → EachAtomOfAll (λ P S. IsFreeOf x P) Gs
    formulas_free point none Gs h w = subst (EachAtomOfAll (λ P S. IsFreeOf x P)) (sym w) tt
    formulas_free point (more F Fs) Gs h w =
        subst (EachAtomOfAll (λ P S. IsFreeOf x P)) (sym w.4) (formula_free point F w.0 h w.2, formulas_free point Fs w.1 h w.3)

  -- ends of atoms lack the symbol
  lacking_end : (S : Signs) (s : Sign) (a b : List Monomial) → TermsLack x a → TermsLack x b → EachPoint PointLacks (listed (end_of S s a b))
  lacking_end set.Neg Plus a b h k = ((h, k), tt)
  lacking_end set.Zero Plus a b h k = ((h, k), tt)
  lacking_end set.Zero Minus a b h k = ((h, k), tt)
  lacking_end set.Pos Minus a b h k = ((h, k), tt)
  lacking_end set.NotPos Plus a b h k = ((h, k), tt)
  lacking_end set.NonZero Plus a b h k = ((h, k), tt)
  lacking_end set.NonZero Minus a b h k = ((h, k), tt)
  lacking_end set.NotNeg Minus a b h k = ((h, k), tt)
  lacking_end set.Neg Minus a b h k = tt
  lacking_end set.Neg Zero a b h k = tt
  lacking_end set.Zero Zero a b h k = tt
  lacking_end set.Pos Plus a b h k = tt
  lacking_end set.Pos Zero a b h k = tt
  lacking_end set.NotPos Minus a b h k = tt
  lacking_end set.NotPos Zero a b h k = tt
  lacking_end set.NonZero Zero a b h k = tt
  lacking_end set.NotNeg Plus a b h k = tt
  lacking_end set.NotNeg Zero a b h k = tt

  lacking_ends : (c : Bool) (S : Signs) (a b : List Monomial) → TermsLack x a → TermsLack x b → EachPoint PointLacks (ends_by_slope c S a b)
  lacking_ends true S a b h k = lacking_end S (constant_sign a) a b h k
  lacking_ends false S a b h k =
      each_append PointLacks (listed (end_of S Plus a b)) (listed (end_of S Minus a b)) (lacking_end S Plus a b h k) (lacking_end S Minus a b h k)

  lacking_atom : (P : List Monomial) (S : Signs) → EachPoint PointLacks (ends_of_atom x P S)
  lacking_atom P S =
      elim (holds_symbol x P) as (λ b. EachPoint PointLacks (if b then ends_by_slope (is_constant (slope_in x P)) S (slope_in x P) (base_in x P) else [])) [
        | true ↦ lacking_ends (is_constant (slope_in x P)) S (slope_in x P) (base_in x P) (lack_part x 1 P) (lack_part x 0 P)
        | false ↦ tt
      ]

  lacking_atoms : (rows : List Row) → EachPoint PointLacks (ends_of_atoms x rows)
  lacking_atoms [] = tt
  lacking_atoms (a ∷ rows) = each_append PointLacks (ends_of_atom x a.0 a.1) (ends_of_atoms x rows) (lacking_atom a.0 a.1) (lacking_atoms rows)

  -- what is written by a plan is free, but for the level one
  abbrev IsFreePlan : Plan → Type 0
  IsFreePlan (level a b F) = Unit {0}
  IsFreePlan (plain point F) = PointLacks point
  IsFreePlan (guarded point a s F) = TermsLack x a × PointLacks point

  plan_free : (F : Formula) (point : TestPoint) → PointLacks point → IsFreePlan (plan_at F point)
  plan_free F infinity h = tt
  plan_free F (root a b s) h = (h.0, h)
  plan_free F (before a b s) h = (h.0, h)

  root_free : (c : Bool) (a b : List Monomial) (G : Formula) → TermsLack x a → TermsLack x b → EachPlan IsFreePlan (root_plans c a b G)
  root_free true a b G h k = ((h, k), tt)
  root_free false a b G h k = ((h, (h, k)), ((h, (h, k)), (tt, tt)))

  plans_free : (F : Formula) (o : Option Taken) → EachPlan IsFreePlan (plans_by x F o)
  plans_free F None =
      each_planned IsFreePlan PointLacks (plan_at F) (test_points x F) (plan_free F)
      (tt, each_of_first PointLacks [] (ends_of_atoms x (atoms_of F)) (lacking_atoms (atoms_of F)))
  plans_free F (Some e) = root_free (is_constant (slope_in x e.poly)) (slope_in x e.poly) (base_in x e.poly) (others_of e.others) (lack_part x 1 e.poly)
      (lack_part x 0 e.poly)

  written_free : (F : Formula) (k : ℕ) (plan : Plan) (G : Formula) → slice_get (branch_plans x F) k ≡ Some plan → IsFreePlan plan → IsWrittenBy x plan G
      → (IsLevelBranch x F k → ⊥) → IsFree x G
  written_free F k (plain point H) G e h w n = formula_free point H G h w
  written_free F k (guarded point a s H) G e h w n =
      subst (IsFree x) (sym w.written) (atom_free x a (only s) w.guard (terms_lack x a h.0) w.guard_is, (formula_free point H w.there h.1 w.there_is, tt))
  written_free F k (level a b H) G e h w n = absurd (n (a, b, H, e))

  pub branch_free : (F : Formula) (k : ℕ) (G : Formula) → IsBranch x F k G → (IsLevelBranch x F k → ⊥) → IsFree x G
  branch_free F k G w n = written_free F k w.0 G w.1 (each_at IsFreePlan (branch_plans x F) k w.0 (plans_free F (top_equation x F)) w.1) w.2 n
