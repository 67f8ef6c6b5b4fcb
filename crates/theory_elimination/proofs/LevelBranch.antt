-- Where the third branch of an equation is true, the formula is true at the same point.
use Rattle.std.proofs.Common.{◌≡◌, ℕ, Bool, true, false, List, [], ◌∷◌, None, Some, refl, sym, ap, ◌∙◌}
use Rattle.std.specs.Prelude.{◌&&◌, slice_get, map}
use Rattle.theory_meaning.specs.declared.words.Sign.{Sign}
use Rattle.theory_meaning.specs.declared.words.Sign.TheVariants.{Minus, Zero, Plus}
use Rattle.theory_meaning.proofs.OrderLaws.{same_itself}
use Rattle.theory_formula.specs.declared.signs.Signs.TheVariants as set
use Rattle.theory_formula.specs.Signs.{has}
use Rattle.theory_polynomial.specs.Polynomial.{Monomial}
use Rattle.theory_polynomial.specs.PolynomialValue.{Values, symbol_at, slope_in, base_in}
use Rattle.theory_formula.specs.Formula.{Formula, truth_at, reading_at, sign_at, IsTrueAt}
use Rattle.theory_formula.specs.Symbols.{IsFree}
use Rattle.theory_formula.proofs.ConditionLaws.{condition_truth}
use Rattle.theory_elimination.specs.TestPoint.{TestPoint, infinity, root, before, is_constant, test_points}
use Rattle.theory_elimination.specs.Branches.{Plan, plain, guarded, level, plan_at, top_equation, others_of, root_plans, plans_by, branch_plans, IsLevel, IsWrittenBy, IsBranch}
use Rattle.theory_elimination.specs.Elimination.{IsLinear, IsLinearAtom, IsLevelBranch}
use Rattle.theory_elimination.proofs.Lines.{slope_sign, base_sign, flat}
use Rattle.theory_elimination.proofs.LineSigns.{line_of, slope_sign_is, base_sign_is, sign_is_on_line}
use Rattle.theory_elimination.proofs.PartLaws.{part_is_polynomial}
use Rattle.theory_elimination.proofs.PlanLists.{EachPlan, each_at}
use Rattle.theory_elimination.proofs.TopEquations.{equation_and_others, equation_each}
use Rattle.theory_elimination.proofs.FreeBranches.{branch_free}

only_zero : (s : Sign) → has set.Zero s ≡ true → s ≡ Zero
only_zero Minus e = absurd cc
only_zero Zero e = refl
only_zero Plus e = absurd cc

of_three : (a b c : Bool) → a && (b && (c && true)) ≡ true → (a ≡ true) × (b ≡ true) × (c ≡ true)
of_three true true true e = (refl, refl, refl)
of_three true true false e = absurd cc
of_three true false c e = absurd cc
of_three false b c e = absurd cc

both_true : (a b : Bool) → a ≡ true → b ≡ true → a && b ≡ true
both_true true true e f = refl
both_true true false e f = absurd cc
both_true false b e f = absurd cc

module _ (x : ℕ) (q : Values) where
  -- only a level plan says something
  abbrev LevelStays : Formula → Plan → Type 0
  LevelStays F (plain point G) = Unit {0}
  LevelStays F (guarded point a s G) = Unit {0}
  LevelStays F (level a b G) = (B : Formula) → IsLevel a b G B → IsTrueAt B q → IsTrueAt F q

  planned_stay : (F : Formula) (points : List TestPoint) → EachPlan (LevelStays F) (map (plan_at F) points)
  planned_stay F [] = tt
  planned_stay F (infinity ∷ points) = (tt, planned_stay F points)
  planned_stay F (root a b s ∷ points) = (tt, planned_stay F points)
  planned_stay F (before a b s ∷ points) = (tt, planned_stay F points)

  level_stays : (F G B : Formula) (P : List Monomial) → truth_at F q ≡ has set.Zero (sign_at P q) && truth_at G q → IsLinearAtom x P set.Zero
      → IsLevel (slope_in x P) (base_in x P) G B → IsTrueAt B q → IsTrueAt F q
  level_stays F G B P w h b t =
      let three = of_three (truth_at b.flat q) (truth_at b.zero q) (truth_at G q) (ap (λ (H : Formula). truth_at H q) (sym b.written) ∙ t) in
      let ordered = h.poly.canonical.ordered in
      let line = line_of x q P in
      let slope : slope_sign line ≡ Zero =
      slope_sign_is q (slope_in x P) (base_in x P) ∙ only_zero (sign_at (slope_in x P) q)
      (sym (condition_truth (slope_in x P) set.Zero b.flat q (part_is_polynomial x 1 P ordered) b.flat_is) ∙ three.0) in
      let base : base_sign line ≡ Zero =
      base_sign_is q (slope_in x P) (base_in x P) ∙ only_zero (sign_at (base_in x P) q)
      (sym (condition_truth (base_in x P) set.Zero b.zero q (part_is_polynomial x 0 P ordered) b.zero_is) ∙ three.1) in
      let zero : sign_at P q ≡ Zero = sign_is_on_line x (symbol_at x q) P q h.linear (same_itself (symbol_at x q)) ∙ flat line (symbol_at x q) slope ∙ base in
      w ∙ both_true (has set.Zero (sign_at P q)) (truth_at G q) (ap (has set.Zero) zero) three.2

  roots_stay : (c : Bool) (F G : Formula) (P : List Monomial) → truth_at F q ≡ has set.Zero (sign_at P q) && truth_at G q → IsLinearAtom x P set.Zero
      → EachPlan (LevelStays F) (root_plans c (slope_in x P) (base_in x P) G)
  roots_stay true F G P w h = (tt, tt)
  roots_stay false F G P w h = (tt, (tt, ((λ B b t. level_stays F G B P w h b t), tt)))

  plans_stay : (F : Formula) → IsLinear x F → EachPlan (LevelStays F) (branch_plans x F)
  plans_stay F l =
      elim (top_equation x F) as (λ o. top_equation x F ≡ o → EachPlan (LevelStays F) (plans_by x F o)) [
        | None ↦ λ e. planned_stay F (test_points x F)
        | Some t ↦ λ e.
            roots_stay (is_constant (slope_in x t.poly)) F (others_of t.others) t.poly (equation_and_others x F t (reading_at q) e)
            (equation_each x F t (IsLinearAtom x) e l).0
      ] refl

  same_some : {A : Type 0} {a b : A} → Some a ≡ Some b → a ≡ b
  same_some e = cc

  not_plain : (F : Formula) (k : ℕ) (point : TestPoint) (H : Formula) → slice_get (branch_plans x F) k ≡ Some (plain point H) → IsLevelBranch x F k → ⊥
  not_plain F k point H e l = let f = same_some (sym e ∙ l.3) in cc

  not_guarded : (F : Formula) (k : ℕ) (point : TestPoint) (a : List Monomial) (s : Sign) (H : Formula)
      → slice_get (branch_plans x F) k ≡ Some (guarded point a s H) → IsLevelBranch x F k → ⊥
  not_guarded F k point a s H e l = let f = same_some (sym e ∙ l.3) in cc

  by_plan : (F : Formula) (k : ℕ) (plan : Plan) (G : Formula) → slice_get (branch_plans x F) k ≡ Some plan → IsWrittenBy x plan G → LevelStays F plan
      → (IsFree x G → ⊥) → IsTrueAt G q → IsTrueAt F q
  by_plan F k (plain point H) G e w m n t = absurd (n (branch_free x F k G (plain point H, e, w) (not_plain F k point H e)))
  by_plan F k (guarded point a s H) G e w m n t = absurd (n (branch_free x F k G (guarded point a s H, e, w) (not_guarded F k point a s H e)))
  by_plan F k (level a b H) G e w m n t = m G w t

  -- a true branch in which the symbol occurs leaves the formula true where it is
  pub stays_true : (F : Formula) (k : ℕ) (G : Formula) → IsLinear x F → IsBranch x F k G → (IsFree x G → ⊥) → IsTrueAt G q → IsTrueAt F q
  stays_true F k G l b n t = by_plan F k b.0 G b.1 b.2 (each_at (LevelStays F) (branch_plans x F) k b.0 (plans_stay F l) b.1) n t

  -- and so does a true level branch
  level_plan : (F : Formula) (k : ℕ) (plan : Plan) (G : Formula) → slice_get (branch_plans x F) k ≡ Some plan → IsWrittenBy x plan G → LevelStays F plan
      → IsLevelBranch x F k → IsTrueAt G q → IsTrueAt F q
  level_plan F k (plain point H) G e w m l t = absurd (not_plain F k point H e l)
  level_plan F k (guarded point a s H) G e w m l t = absurd (not_guarded F k point a s H e l)
  level_plan F k (level a b H) G e w m l t = m G w t

  pub level_is_true : (F : Formula) (k : ℕ) (G : Formula) → IsLinear x F → IsLevelBranch x F k → IsBranch x F k G → IsTrueAt G q → IsTrueAt F q
  level_is_true F k G h l b t = level_plan F k b.0 G b.1 b.2 (each_at (LevelStays F) (branch_plans x F) k b.0 (plans_stay F h) b.1) l t
