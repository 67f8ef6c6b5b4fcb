-- Each plan of a branch has a formula that is written by it.
use Rattle.std.proofs.Common.{◌≡◌, ◌≢◌, ℕ, zero, suc, ◌<◌, length, Bool, true, false, List, [], ◌∷◌, Option, None, Some, refl, arith, inl, inr}
use Rattle.std.specs.Prelude.{slice_get, if◌then◌else◌}
use Rattle.std.proofs.lemmas.Bool.{cases_lt}
use Rattle.theory_meaning.specs.declared.words.Sign.{Sign}
use Rattle.theory_meaning.specs.declared.words.Sign.TheVariants.{Plus, Minus}
use Rattle.theory_formula.specs.declared.signs.Signs.{Signs}
use Rattle.theory_formula.specs.declared.signs.Signs.TheVariants as set
use Rattle.theory_formula.specs.Signs.{has, mirror, without_zero, sign_of_whole}
use Rattle.theory_polynomial.specs.Polynomial.{Monomial, coefficient_at, no_powers, greatest_exponent_of, IsPolynomial, cross_of}
use Rattle.theory_formula.specs.Formula.{Formula, Formulas, always, never, atom, conjunction, disjunction, none, more, EachAtomOfAll, both, either}
use Rattle.theory_formula.specs.FormulaAtoms.{atoms_of}
use Rattle.theory_formula.specs.SignCondition.{HasSymbol, decided, IsAtomOf}
use Rattle.theory_elimination.specs.TestPoint.{TestPoint, infinity, root, before, holds_symbol, is_constant, constant_sign, ends_of_atoms, test_points}
use Rattle.theory_polynomial.specs.PolynomialValue.{slope_in, base_in}
use Rattle.theory_elimination.specs.Substituted.{IsConditionOn, along_slope, IsLineAt, IsAtomWhere, IsFormulaAt, AreFormulasAt}
use Rattle.theory_elimination.specs.Branches.{only, Plan, guarded, level, plan_at, Taken, top_equation, others_of, root_plans, plans_by, branch_plans, IsWrittenBy, IsBranch}
use Rattle.theory_elimination.specs.Elimination.{IsLinearAtom, IsLinear}
use Rattle.theory_elimination.proofs.AtomLists.{rows_of_atoms}
use Rattle.theory_elimination.proofs.PartLaws.{part_is_polynomial}
use Rattle.theory_elimination.proofs.PointLists.{IsFit, each_of_first, fit_of_atoms}
use Rattle.theory_elimination.proofs.PlanLists.{EachPlan, each_at, each_planned}
use Rattle.theory_elimination.proofs.TopEquations.{equation_each}
use Rattle.theory_elimination.proofs.SummedTerms.{cross_has_polynomial}
use Rattle.theory_elimination.proofs.DividedTerms.{HasPrimitive, has_primitive, has_canonical}

-- some formula with this fact
record Written (Q : Formula → Type 0) : Type 0 where
  formula : Formula
  is : Q formula

-- some list of formulas with this fact
record AllWritten (Q : Formulas → Type 0) : Type 0 where
  formulas : Formulas
  is : Q formulas

-- the condition on a polynomial
some_term : (P : List Monomial) → HasSymbol P → P ≢ []
some_term [] h e = absurd (omega (arith, h))
some_term (t ∷ ts) h e = cc

canonical_atom : (P : List Monomial) (S : Signs) → IsPolynomial P → HasSymbol P → Written (IsAtomOf P S)
canonical_atom P S h k =
    let c = has_canonical P h (some_term P k) in
    record {
      formula = atom c.poly (if c.turned then mirror S else S);
      is = inr (record { symbol = k; turned = c.turned; poly = c.poly; canonical = c.is; written = refl });
    }

decided_atom : (P : List Monomial) (S : Signs) → greatest_exponent_of P ≡ 0 → Written (IsAtomOf P S)
decided_atom P S h = record {
  formula = decided (has S (sign_of_whole (coefficient_at P no_powers)));
  is = inl (record { constant = h; written = refl });
}

written_atom : (P : List Monomial) (S : Signs) → IsPolynomial P → Written (IsAtomOf P S)
written_atom P S h =
    elim (cases_lt 0 (greatest_exponent_of P)) [
      | inl some ↦ canonical_atom P S h some
      | inr other ↦ decided_atom P S (omega (arith, other))
    ]

written_condition : (P : List Monomial) (o : Option Signs) → IsPolynomial P → Written (IsConditionOn P o)
written_condition P None h = record { formula = never; is = refl }
written_condition P (Some S) h = written_atom P S h

-- what is left of the cross product
has_cross : (a b slope base : List Monomial) → IsPolynomial a → IsPolynomial b → IsPolynomial slope → IsPolynomial base
    → HasPrimitive (cross_of a base slope b)
has_cross a b slope base h k l m = has_primitive (cross_of a base slope b) (cross_has_polynomial a base slope b h m l k)

-- slope and base of a test point are polynomials
abbrev HasLine : TestPoint → Type 0
HasLine infinity = Unit {0}
HasLine (root a b s) = IsPolynomial a × IsPolynomial b
HasLine (before a b s) = IsPolynomial a × IsPolynomial b

fit_has_line : (point : TestPoint) → IsFit point → HasLine point
fit_has_line infinity h = tt
fit_has_line (root a b s) h = (h.0, h.1)
fit_has_line (before a b s) h = (h.0, h.1)

-- the condition on a line at a test point
written_line : (point : TestPoint) (slope base : List Monomial) (S : Signs) → HasLine point → IsPolynomial slope → IsPolynomial base
    → Written (IsLineAt point slope base S)
written_line infinity slope base S h l m =
    let by_slope = written_condition slope (without_zero S) l in
    let flat = written_atom slope set.Zero l in
    let by_base = written_atom base S m in
    record {
      formula = either by_slope.formula (both flat.formula by_base.formula);
      is = record {
        by_slope = by_slope.formula;
        flat = flat.formula;
        by_base = by_base.formula;
        slope_is = by_slope.is;
        flat_is = flat.is;
        base_is = by_base.is;
        written = refl;
      };
    }
written_line (root a b s) slope base S h l m =
    let q = has_cross a b slope base h.0 h.1 l m in
    let all = written_atom q.poly (along_slope s S) q.is.2 in
    record { formula = all.formula; is = record { q = q.poly; cross = q.is; written = all.is } }
written_line (before a b s) slope base S h l m =
    let q = has_cross a b slope base h.0 h.1 l m in
    let there = written_condition q.poly (without_zero (along_slope s S)) q.is.2 in
    let zero_there = written_atom q.poly set.Zero q.is.2 in
    let falling = written_atom slope (mirror S) l in
    record {
      formula = either there.formula (both zero_there.formula falling.formula);
      is = record {
        q = q.poly;
        cross = q.is;
        there = there.formula;
        zero = zero_there.formula;
        falling = falling.formula;
        there_is = there.is;
        zero_is = zero_there.is;
        falling_is = falling.is;
        written = refl;
      };
    }

module _ (x : ℕ) where
  slope_ordered : (P : List Monomial) (S : Signs) → IsLinearAtom x P S → IsPolynomial (slope_in x P)
  slope_ordered P S h = part_is_polynomial x 1 P h.poly.canonical.ordered

  base_ordered : (P : List Monomial) (S : Signs) → IsLinearAtom x P S → IsPolynomial (base_in x P)
  base_ordered P S h = part_is_polynomial x 0 P h.poly.canonical.ordered

  written_where : (b : Bool) (point : TestPoint) (P : List Monomial) (S : Signs) → HasLine point → IsLinearAtom x P S → Written (IsAtomWhere b x point P S)
  written_where true point P S h k =
      written_line point (slope_in x P) (base_in x P) S h (slope_ordered P S k) (base_ordered P S k)
  written_where false point P S h k = record { formula = atom P S; is = refl }

  -- a formula at a test point
  mutual
    written_formula : (point : TestPoint) (F : Formula) → HasLine point → IsLinear x F → Written (IsFormulaAt x point F)
    written_formula point always h k = record { formula = always; is = refl }
    written_formula point never h k = record { formula = never; is = refl }
    written_formula point (atom P S) h k = written_where (holds_symbol x P) point P S h k
    written_formula point (conjunction Fs) h k =
        let all = written_formulas point Fs h k in record { formula = conjunction all.formulas; is = (all.formulas, all.is, refl) }
    written_formula point (disjunction Fs) h k =
        let all = written_formulas point Fs h k in record { formula = disjunction all.formulas; is = (all.formulas, all.is, refl) }

    written_formulas : (point : TestPoint) (Fs : Formulas) → HasLine point → EachAtomOfAll (IsLinearAtom x) Fs → AllWritten (AreFormulasAt x point Fs)
    written_formulas point none h k = record { formulas = none; is = refl }
    written_formulas point (more F Fs) h k =
        let first = written_formula point F h k.0 in
        let rest = written_formulas point Fs h k.1 in
        record { formulas = more first.formula rest.formulas; is = (first.formula, rest.formulas, first.is, rest.is, refl) }

  -- what each plan writes
  written_guarded : (point : TestPoint) (a : List Monomial) (s : Sign) (F : Formula) → HasLine point → IsPolynomial a → IsLinear x F
      → Written (IsWrittenBy x (guarded point a s F))
  written_guarded point a s F h k l =
      let guard = written_atom a (only s) k in
      let there = written_formula point F h l in
      record {
        formula = both guard.formula there.formula;
        is = record { guard = guard.formula; there = there.formula; guard_is = guard.is; there_is = there.is; written = refl };
      }

  written_level : (a b : List Monomial) (F : Formula) → IsPolynomial a → IsPolynomial b → Written (IsWrittenBy x (level a b F))
  written_level a b F h k =
      let flat = written_atom a set.Zero h in
      let zero_there = written_atom b set.Zero k in
      record {
        formula = conjunction (more flat.formula (more zero_there.formula (more F none)));
        is = record { flat = flat.formula; zero = zero_there.formula; flat_is = flat.is; zero_is = zero_there.is; written = refl };
      }

  -- each plan of a formula writes one
  abbrev IsWritten : Plan → Type 0
  IsWritten plan = Written (IsWrittenBy x plan)

  written_at : (F : Formula) → IsLinear x F → (point : TestPoint) → HasLine point → IsWritten (plan_at F point)
  written_at F h infinity k = written_formula infinity F tt h
  written_at F h (root a b s) k = written_guarded (root a b s) a s F k k.0 h
  written_at F h (before a b s) k = written_guarded (before a b s) a s F k k.0 h

  written_roots : (c : Bool) (a b : List Monomial) (G : Formula) → IsPolynomial a → IsPolynomial b → IsLinear x G → EachPlan IsWritten (root_plans c a b G)
  written_roots true a b G h k l = (written_formula (root a b (constant_sign a)) G (h, k) l, tt)
  written_roots false a b G h k l = (
    written_guarded (root a b Plus) a Plus G (h, k) h l,
    (written_guarded (root a b Minus) a Minus G (h, k) h l, (written_level a b G h k, tt)),
  )

  written_plans : (F : Formula) (o : Option Taken) → top_equation x F ≡ o → IsLinear x F → EachPlan IsWritten (plans_by x F o)
  written_plans F None e h =
      each_planned IsWritten IsFit (plan_at F) (test_points x F) (λ point k. written_at F h point (fit_has_line point k))
      (tt, each_of_first IsFit [] (ends_of_atoms x (atoms_of F)) (fit_of_atoms x (atoms_of F) (rows_of_atoms (IsLinearAtom x) F h)))
  written_plans F (Some t) e h =
      let each = equation_each x F t (IsLinearAtom x) e h in
      written_roots (is_constant (slope_in x t.poly)) (slope_in x t.poly) (base_in x t.poly) (others_of t.others)
      (slope_ordered t.poly set.Zero each.0) (base_ordered t.poly set.Zero each.0) each.1

-- there is a plan at each place
record PlanAt (plans : List Plan) (k : ℕ) : Type 0 where
  plan : Plan
  there : slice_get plans k ≡ Some plan

plan_there : (plans : List Plan) (k : ℕ) → k < length plans → PlanAt plans k
plan_there [] k h = absurd (omega (arith, h))
plan_there (first ∷ plans) zero h = record { plan = first; there = refl }
plan_there (first ∷ plans) (suc k) h = let later = plan_there plans k (omega (arith, h)) in record { plan = later.plan; there = later.there }

-- so each branch is written
pub branch_is_written : (x : ℕ) (F : Formula) (k : ℕ) → IsLinear x F → k < length (branch_plans x F) → (G : Formula) × IsBranch x F k G
branch_is_written x F k h l =
    let here = plan_there (branch_plans x F) k l in
    let each = written_plans x F (top_equation x F) refl h in
    let all = each_at (IsWritten x) (branch_plans x F) k here.plan each here.there in
    (all.formula, (here.plan, here.there, all.is))
