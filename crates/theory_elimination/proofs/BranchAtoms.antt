-- The polynomials of a branch: what is true of those of the formula, of their parts and of their cross products is true of them.
use Rattle.std.proofs.Common.{◌≡◌, ℕ, Bool, true, false, List, [], ◌∷◌, Option, None, Some, refl, sym, subst}
use Rattle.std.specs.Prelude.{if◌then◌else◌}
use Rattle.theory_meaning.specs.declared.words.Sign.{Sign}
use Rattle.theory_meaning.specs.declared.words.Sign.TheVariants.{Minus, Zero, Plus}
use Rattle.theory_formula.specs.declared.signs.Signs.{Signs}
use Rattle.theory_formula.specs.declared.signs.Signs.TheVariants as set
use Rattle.theory_formula.specs.Signs.{mirror, without_zero}
use Rattle.theory_meaning.specs.Point.{Name}
use Rattle.theory_polynomial.specs.Polynomial.{Monomial, IsPolynomial, IsPrimitiveOf, IsFreeOf, cross_of}
use Rattle.theory_polynomial.specs.PolynomialValue.{part_of, slope_in, base_in}
use Rattle.theory_formula.specs.Formula.{Formula, Formulas, always, never, atom, conjunction, disjunction, none, more, EachAtom, EachAtomOfAll}
use Rattle.theory_formula.specs.FormulaAtoms.{atoms_of}
use Rattle.theory_formula.specs.SignCondition.{IsAtomOf, IsAtomPolynomial}
use Rattle.theory_polynomial.proofs.FreeLaws.{lacks_is_free}
use Rattle.theory_formula.specs.Symbols.{IsFree, IsProper, IsNamed}
use Rattle.theory_formula.proofs.FreeTerms.{TermsLack, lack_cross, terms_lack, primitive_lacks, atom_free, free_terms, lack_other_part}
use Rattle.theory_formula.proofs.ProperFormulas.{named_below, condition_proper}
use Rattle.theory_elimination.specs.TestPoint.{TestPoint, infinity, root, before, holds_symbol, end_of, listed, is_constant, constant_sign, ends_by_slope, ends_of_atom, ends_of_atoms, test_points}
use Rattle.theory_elimination.specs.Substituted.{along_slope, IsConditionOn, IsLineAt, IsAtomWhere, IsAtomAt, IsFormulaAt, AreFormulasAt}
use Rattle.theory_elimination.specs.Branches.{only, Plan, plain, guarded, level, plan_at, top_equation, others_of, root_plans, plans_by, branch_plans, IsWrittenBy, IsBranch}
use Rattle.theory_elimination.proofs.AtomLists.{Row, EachRow, rows_of_atoms, each_follows}
use Rattle.theory_elimination.proofs.PointLists.{EachPoint, each_append, each_of_first}
use Rattle.theory_elimination.proofs.PlanLists.{EachPlan, each_at, each_planned}
use Rattle.theory_elimination.proofs.PartLaws.{part_is_polynomial}
use Rattle.theory_elimination.proofs.TopEquations.{equation_each}
use Rattle.theory_elimination.proofs.SimplifiedAtoms.{Each}

-- Q is to hold of atoms' polynomials, R of the sums of terms that conditions are made of
module _ (Q R : List Monomial → Type 0) (x : ℕ)
    (parts : (P : List Monomial) (k : ℕ) → Q P → R (part_of x k P))
    (crossed : (a b c d q : List Monomial) → R a → R b → R c → R d → IsPrimitiveOf (cross_of a b c d) q → R q)
    (made : (P : List Monomial) (S : Signs) (F : Formula) → R P → IsAtomOf P S F → EachAtom (λ P S. Q P) F) where
  conditioned : (P : List Monomial) (m : Option Signs) (F : Formula) → R P → IsConditionOn P m F → Each Q F
  conditioned P None F h w = subst (Each Q) (sym w) tt
  conditioned P (Some S) F h w = made P S F h w

  abbrev pub PointHas : TestPoint → Type 0
  PointHas infinity = Unit {0}
  PointHas (root a b s) = R a × R b
  PointHas (before a b s) = R a × R b

  line_has : (point : TestPoint) (slope base : List Monomial) (S : Signs) (G : Formula) → PointHas point → R slope → R base
      → IsLineAt point slope base S G → Each Q G
  line_has infinity slope base S G h k l w =
      subst (Each Q) (sym w.written) (
        conditioned slope (without_zero S) w.by_slope k w.slope_is,
        ((made slope set.Zero w.flat k w.flat_is, (made base S w.by_base l w.base_is, tt)), tt),
      )
  line_has (root a b s) slope base S G h k l w =
      made w.q (along_slope s S) G (crossed a base slope b w.q h.0 l k h.1 w.cross) w.written
  line_has (before a b s) slope base S G h k l w =
      let q = crossed a base slope b w.q h.0 l k h.1 w.cross in
      subst (Each Q) (sym w.written) (
        conditioned w.q (without_zero (along_slope s S)) w.there q w.there_is,
        ((made w.q set.Zero w.zero q w.zero_is, (made slope (mirror S) w.falling k w.falling_is, tt)), tt),
      )

  atom_has : (point : TestPoint) (P : List Monomial) (S : Signs) (G : Formula) → PointHas point → Q P → IsAtomAt x point P S G → Each Q G
  atom_has point P S G h q w =
      elim (holds_symbol x P) as (λ b. IsAtomWhere b x point P S G → Each Q G) [
        | true ↦ λ v. line_has point (slope_in x P) (base_in x P) S G h (parts P 1 q) (parts P 0 q) v
        | false ↦ λ v. subst (Each Q) (sym v) q
      ] w

  mutual
    formula_has : (point : TestPoint) (F G : Formula) → PointHas point → Each Q F → IsFormulaAt x point F G → Each Q G
    formula_has point always G h q w = subst (Each Q) (sym w) tt
    formula_has point never G h q w = subst (Each Q) (sym w) tt
    formula_has point (atom P S) G h q w = atom_has point P S G h q w
    formula_has point (conjunction Fs) G h q w = subst (Each Q) (sym w.2) (formulas_have point Fs w.0 h q w.1)
    formula_has point (disjunction Fs) G h q w = subst (Each Q) (sym w.2) (formulas_have point Fs w.0 h q w.1)

    formulas_have : (point : TestPoint) (Fs Gs : Formulas) → PointHas point → EachAtomOfAll (λ P S. Q P) Fs → AreFormulasAt x point Fs Gs
        → EachAtomOfAll (λ P S. Q P) Gs
    formulas_have point none Gs h q w = subst (EachAtomOfAll (λ P S. Q P)) (sym w) tt
    formulas_have point (more F Fs) Gs h q w =
        subst (EachAtomOfAll (λ P S. Q P)) (sym w.4) (formula_has point F w.0 h q.0 w.2, formulas_have point Fs w.1 h q.1 w.3)

  end_has : (S : Signs) (s : Sign) (a b : List Monomial) → R a → R b → EachPoint PointHas (listed (end_of S s a b))
  end_has set.Neg Plus a b h k = ((h, k), tt)
  end_has set.Zero Plus a b h k = ((h, k), tt)
  end_has set.Zero Minus a b h k = ((h, k), tt)
  end_has set.Pos Minus a b h k = ((h, k), tt)
  end_has set.NotPos Plus a b h k = ((h, k), tt)
  end_has set.NonZero Plus a b h k = ((h, k), tt)
  end_has set.NonZero Minus a b h k = ((h, k), tt)
  end_has set.NotNeg Minus a b h k = ((h, k), tt)
  end_has set.Neg Minus a b h k = tt
  end_has set.Neg Zero a b h k = tt
  end_has set.Zero Zero a b h k = tt
  end_has set.Pos Plus a b h k = tt
  end_has set.Pos Zero a b h k = tt
  end_has set.NotPos Minus a b h k = tt
  end_has set.NotPos Zero a b h k = tt
  end_has set.NonZero Zero a b h k = tt
  end_has set.NotNeg Plus a b h k = tt
  end_has set.NotNeg Zero a b h k = tt

  ends_have : (c : Bool) (S : Signs) (a b : List Monomial) → R a → R b → EachPoint PointHas (ends_by_slope c S a b)
  ends_have true S a b h k = end_has S (constant_sign a) a b h k
  ends_have false S a b h k =
      each_append PointHas (listed (end_of S Plus a b)) (listed (end_of S Minus a b)) (end_has S Plus a b h k) (end_has S Minus a b h k)

  atom_ends_have : (P : List Monomial) (S : Signs) → Q P → EachPoint PointHas (ends_of_atom x P S)
  atom_ends_have P S q =
      elim (holds_symbol x P) as (λ b. EachPoint PointHas (if b then ends_by_slope (is_constant (slope_in x P)) S (slope_in x P) (base_in x P) else [])) [
        | true ↦ ends_have (is_constant (slope_in x P)) S (slope_in x P) (base_in x P) (parts P 1 q) (parts P 0 q)
        | false ↦ tt
      ]

  all_ends_have : (rows : List Row) → EachRow (λ P S. Q P) rows → EachPoint PointHas (ends_of_atoms x rows)
  all_ends_have [] q = tt
  all_ends_have (a ∷ rows) q = each_append PointHas (ends_of_atom x a.0 a.1) (ends_of_atoms x rows) (atom_ends_have a.0 a.1 q.0) (all_ends_have rows q.1)

  abbrev pub PlanHas : Plan → Type 0
  PlanHas (plain point F) = PointHas point × Each Q F
  PlanHas (guarded point a s F) = R a × PointHas point × Each Q F
  PlanHas (level a b F) = R a × R b × Each Q F

  plan_has : (F : Formula) → Each Q F → (point : TestPoint) → PointHas point → PlanHas (plan_at F point)
  plan_has F q infinity h = (tt, q)
  plan_has F q (root a b s) h = (h.0, h, q)
  plan_has F q (before a b s) h = (h.0, h, q)

  roots_have : (c : Bool) (a b : List Monomial) (G : Formula) → R a → R b → Each Q G → EachPlan PlanHas (root_plans c a b G)
  roots_have true a b G h k q = (((h, k), q), tt)
  roots_have false a b G h k q = ((h, (h, k), q), ((h, (h, k), q), ((h, k, q), tt)))

  pub plans_have : (F : Formula) → Each Q F → EachPlan PlanHas (branch_plans x F)
  plans_have F q =
      elim (top_equation x F) as (λ o. top_equation x F ≡ o → EachPlan PlanHas (plans_by x F o)) [
        | None ↦ λ e. each_planned PlanHas PointHas (plan_at F) (test_points x F) (plan_has F q)
            (tt, each_of_first PointHas [] (ends_of_atoms x (atoms_of F)) (all_ends_have (atoms_of F) (rows_of_atoms (λ P S. Q P) F q)))
        | Some t ↦ λ e.
            let each = equation_each x F t (λ P S. Q P) e q in
            roots_have (is_constant (slope_in x t.poly)) (slope_in x t.poly) (base_in x t.poly) (others_of t.others) (parts t.poly 1 each.0)
            (parts t.poly 0 each.0) each.1
      ] refl

  written_has : (plan : Plan) (G : Formula) → PlanHas plan → IsWrittenBy x plan G → Each Q G
  written_has (plain point F) G h w = formula_has point F G h.0 h.1 w
  written_has (guarded point a s F) G h w =
      subst (Each Q) (sym w.written) (made a (only s) w.guard h.0 w.guard_is, (formula_has point F w.there h.1 h.2 w.there_is, tt))
  written_has (level a b F) G h w =
      subst (Each Q) (sym w.written) (made a set.Zero w.flat h.0 w.flat_is, (made b set.Zero w.zero h.1 w.zero_is, (h.2, tt)))

  branch_has : (F : Formula) (k : ℕ) (G : Formula) → Each Q F → IsBranch x F k G → Each Q G
  branch_has F k G q w = written_has w.0 G (each_at PlanHas (branch_plans x F) k w.0 (plans_have F q) w.1) w.2

-- the atoms of a branch are on canonical polynomials with a symbol
proper_parts : (x : ℕ) (P : List Monomial) (k : ℕ) → IsAtomPolynomial P → IsPolynomial (part_of x k P)
proper_parts x P k q = part_is_polynomial x k P q.canonical.ordered

crossed_proper : (a b c d q : List Monomial) → IsPolynomial a → IsPolynomial b → IsPolynomial c → IsPolynomial d → IsPrimitiveOf (cross_of a b c d) q
    → IsPolynomial q
crossed_proper a b c d q h k l m w = w.2

pub branch_proper : (x : ℕ) (F : Formula) (k : ℕ) (G : Formula) → IsProper F → IsBranch x F k G → IsProper G
branch_proper x =
    branch_has IsAtomPolynomial IsPolynomial x (proper_parts x) crossed_proper condition_proper

-- a symbol that doesn't occur in the formula doesn't in a branch
pub branch_stays_free : (x y : ℕ) (F : Formula) (k : ℕ) (G : Formula) → IsFree y F → IsBranch x F k G → IsFree y G
branch_stays_free x y =
    branch_has (IsFreeOf y) (TermsLack y) x (λ P k q. lack_other_part x y k P (free_terms y P q))
    (λ a b c d q h k l m w. free_terms y q (lacks_is_free y q w.2 (primitive_lacks y (cross_of a b c d) q (lack_cross y a b c d h k l m) w)))
    (λ P S F h w. atom_free y P S F (terms_lack y P h) w)

-- and where the symbols are those of listed names, so they are in a branch
pub branch_stays_named : (x : ℕ) (ns : List Name) (F : Formula) (k : ℕ) (G : Formula) → EachAtom (IsNamed ns) F → IsBranch x F k G → EachAtom (IsNamed ns) G
branch_stays_named x ns F k G h w =
    named_below ns G (λ y past. branch_stays_free x y F k G (each_follows (IsNamed ns) (λ P S. IsFreeOf y P) F (λ P S named. named y past) h) w)
