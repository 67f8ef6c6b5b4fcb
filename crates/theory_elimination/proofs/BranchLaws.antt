-- A true branch gives a value of the symbol, and each point of the formula is one of some branch.
use Rattle.std.proofs.Common.{◌≡◌, ℕ, ◌<◌, length, None, Some, refl}
use Rattle.theory_polynomial.specs.PolynomialValue.{Values, slope_in}
use Rattle.theory_formula.specs.Formula.{Formula, IsTrueAt}
use Rattle.theory_elimination.specs.TestPoint.{is_constant, test_points}
use Rattle.theory_elimination.specs.Branches.{plan_at, top_equation, others_of, plans_by, branch_plans, IsBranch}
use Rattle.theory_elimination.specs.Elimination.{IsLinearAtom, IsLinear, BranchIsTrueAt}
use Rattle.theory_elimination.proofs.PointLists.{IsFit}
use Rattle.theory_elimination.proofs.PlanLists.{EachPlan, SomePlan, each_at, some_at, each_planned, some_planned}
use Rattle.theory_elimination.proofs.WrittenBranches.{branch_is_written}
use Rattle.theory_elimination.proofs.TopEquations.{equation_and_others, equation_holds, equation_each}
use Rattle.theory_elimination.proofs.GuardedPoints.{HasValue, IsSound, IsTrueHere, branch_sound, branch_complete, some_good, fit_points, IsGood}
use Rattle.theory_elimination.proofs.EquationBranches.{equation_sound, equation_complete}

module _ (x : ℕ) (p : Values) where
  -- the law, both ways
  plans_sound : (F : Formula) → IsLinear x F → EachPlan (IsSound x p F) (branch_plans x F)
  plans_sound F l =
      elim (top_equation x F) as (λ o. top_equation x F ≡ o → EachPlan (IsSound x p F) (plans_by x F o)) [
        | None ↦ λ e. each_planned (IsSound x p F) IsFit (plan_at F) (test_points x F) (branch_sound x p F l) (fit_points x p F l)
        | Some taken ↦ λ e.
            let each = equation_each x F taken (IsLinearAtom x) e l in
            equation_sound x p (is_constant (slope_in x taken.poly)) taken.poly (others_of taken.others) F refl (λ r. equation_and_others x F taken r e) each.0
            (equation_holds x F taken e) l each.1
      ] refl

  plans_complete : (F : Formula) → IsLinear x F → IsTrueAt F p → SomePlan (IsTrueHere x p) (branch_plans x F)
  plans_complete F l t =
      elim (top_equation x F) as (λ o. top_equation x F ≡ o → SomePlan (IsTrueHere x p) (plans_by x F o)) [
        | None ↦ λ e. some_planned (IsTrueHere x p) (IsGood x p F) (plan_at F) (test_points x F) (branch_complete x p F l) (some_good x p F l t)
        | Some taken ↦ λ e.
            let each = equation_each x F taken (IsLinearAtom x) e l in
            equation_complete x p (is_constant (slope_in x taken.poly)) taken.poly (others_of taken.others) F refl
            (λ r. equation_and_others x F taken r e) each.0 (equation_holds x F taken e) l each.1 t
      ] refl

  pub branch_has_value : (F : Formula) (k : ℕ) (G : Formula) → IsLinear x F → IsBranch x F k G → IsTrueAt G p → HasValue x p F
  branch_has_value F k G l b t = each_at (IsSound x p F) (branch_plans x F) k b.0 (plans_sound F l) b.1 G b.2 t

  pub some_branch_is_true : (F : Formula) → IsLinear x F → IsTrueAt F p → (k : ℕ) × (k < length (branch_plans x F)) × BranchIsTrueAt x F p k
  some_branch_is_true F l t =
      let found = some_at (IsTrueHere x p) (branch_plans x F) (plans_complete F l t) in
      let written = branch_is_written x F found.place l found.within in
      (found.place, found.within, (written.0, written.1, found.there written.1.0 written.1.1 written.0 written.1.2))
