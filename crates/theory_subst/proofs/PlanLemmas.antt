-- The branch that is written by the k-th plan.
use Rattle.std.proofs.Common.{◌≡◌, ℕ, zero, suc, ◌<◌, ◌≤◌, List, [], ◌∷◌, length, get_or, map, arith, sym, ap, ◌∙◌, subst, Option, Some, None, Err}
use Rattle.std.specs.Prelude.{slice_get}
use Rattle.std.specs.Option.{option_map}
use Rattle.std.proofs.lemmas.Option.{slice_get-map, slice_get_past}
use Rattle.theory_points.specs.declared.limit.Limit.{Limit}
use Rattle.theory_points.specs.declared.limit.Limit.TheVariants.{Wide, Memory}
use Rattle.theory_elimination.specs.Branches.{Plan, IsWrittenBy, plan_at}
use Rattle.theory_formula.specs.Formula as tree
use Rattle.theory_subst.specs.declared.test_point.TestPoint.{TestPoint}
use Rattle.theory_subst.specs.declared.planning.Plan as source
use Rattle.theory_subst.specs.Points.{point_of, points_of}
use Rattle.theory_subst.specs.Plans.{plan_of}
use Rattle.theory_elimination.specs.Widths.{IsWidePlan}
use Rattle.theory_poly.specs.Answers.{WideWhere}
use Rattle.theory_signs.specs.declared.formula.Formula.{Formula}
use Rattle.theory_signs.specs.Plain.{formula_of}
use Rattle.theory_subst.specs.Answers.{IsWrittenByKth, IsWideKth}

pub kth_written : (x k : ℕ) (plans : List Plan) (plan : Plan) (G : Formula) → slice_get plans k ≡ Some plan → IsWrittenBy x plan (formula_of G)
    → IsWrittenByKth x plans k (Some G)
kth_written x k plans plan G is written = (plan, is, written)

pub kth_wide : (x k : ℕ) (plans : List Plan) (plan : Plan) (e : Limit) → slice_get plans k ≡ Some plan → WideWhere {T = Formula} (IsWidePlan x plan) (Err e)
    → WideWhere {T = Option Formula} (IsWideKth x plans k) (Err e)
kth_wide x k plans plan Wide is wide = (plan, is, wide)
kth_wide x k plans plan Memory is wide = tt

only_one : (p q : Plan) → Some p ≡ Some q → p ≡ q
only_one p q e = cc

pub kth_not_wide : (x k : ℕ) (plans : List Plan) (plan : Plan) → slice_get plans k ≡ Some plan → ¬ IsWidePlan x plan → ¬ IsWideKth x plans k
kth_not_wide x k plans plan is not_wide = λ w. not_wide (subst (IsWidePlan x) (only_one w.0 plan (sym w.1 ∙ is)) w.2)

some_or_none : (p : Plan) → Some p ≡ None → ⊥
some_or_none p e = absurd cc

pub past_not_wide : (x : ℕ) (plans : List Plan) (k : ℕ) → slice_get plans k ≡ None → ¬ IsWideKth x plans k
past_not_wide x plans k is = λ w. some_or_none w.0 (sym w.1 ∙ is)

-- the item at a place
there : {T : Type 0} (items : List T) (k : ℕ) (item : T) → k < length items → item ≡ get_or items k item → slice_get items k ≡ Some item
there [] k item h is = absurd (omega (arith, h))
there (first ∷ items) zero item h is = ap Some (sym is)
there (first ∷ items) (suc k) item h is = there items k item (omega (arith, h)) is

-- the plan at the k-th test point
pub point_plan : (F : tree.Formula) (points : List TestPoint) (k : ℕ) (point : TestPoint) → k < length points → point ≡ get_or points k point
    → slice_get (map (plan_at F) (points_of points)) k ≡ Some (plan_at F (point_of point))
point_plan F points k point h is =
    slice_get-map (plan_at F) (points_of points) k
    ∙ ap (option_map (plan_at F)) (slice_get-map point_of points k ∙ ap (option_map point_of) (there points k point h is))

pub no_point_plan : (F : tree.Formula) (points : List TestPoint) (k : ℕ) → length points ≤ k → slice_get (map (plan_at F) (points_of points)) k ≡ None
no_point_plan F points k h =
    slice_get-map (plan_at F) (points_of points) k
    ∙ ap (option_map (plan_at F)) (slice_get-map point_of points k ∙ ap (option_map point_of) (slice_get_past points k h))

-- the plan by the k-th root
pub root_plan : (F : tree.Formula) (roots : List source.Plan) (k : ℕ) (plan : source.Plan) → k < length roots → plan ≡ get_or roots k plan
    → slice_get (map (plan_of F) roots) k ≡ Some (plan_of F plan)
root_plan F roots k plan h is = slice_get-map (plan_of F) roots k ∙ ap (option_map (plan_of F)) (there roots k plan h is)

pub no_root_plan : (F : tree.Formula) (roots : List source.Plan) (k : ℕ) → length roots ≤ k → slice_get (map (plan_of F) roots) k ≡ None
no_root_plan F roots k h = slice_get-map (plan_of F) roots k ∙ ap (option_map (plan_of F)) (slice_get_past roots k h)
