-- The written plans that those of the program stand for.
use Rattle.std.specs.Prelude.{◌≡◌, ℕ, List, map}
use Rattle.theory_formula.specs.Formula.{Formula, always, conjunction, formulas_list}
use Rattle.theory_elimination.specs.Branches.{plan_at, others_of, branch_plans}
use Rattle.theory_elimination.specs.Branches as written
use Rattle.theory_subst.specs.declared.planning.Plan.{Plan}
use Rattle.theory_subst.specs.declared.planning.Plan.TheVariants.{At, Guarded, Level}
use Rattle.theory_subst.specs.declared.planning.Plans as source
use Rattle.theory_subst.specs.declared.planning.Plans.TheVariants.{AtPoints, ByEquation}
use Rattle.theory_subst.specs.Equations.{without}
use Rattle.theory_subst.specs.Points.{point_of, points_of}

-- the plan for a formula
abbrev pub plan_of : Formula → Plan → written.Plan
plan_of F (At point) = written.plain (point_of point) F
plan_of F (Guarded point) = plan_at F (point_of point)
plan_of F (Level a b) = written.level a b F

-- the members of a conjunction but the one at a place, and none of any other formula
abbrev pub left_of : ℕ → Formula → Formula
left_of place (conjunction Fs) = others_of (without place (formulas_list Fs))
left_of place _ = always

-- the plans of the branches of a formula, in their order
abbrev pub plans_of : Formula → source.Plans → List written.Plan
plans_of F (AtPoints points) = map (plan_at F) (points_of points.items)
plans_of F (ByEquation place roots) = map (plan_of (left_of place F)) roots.items

-- they are those of this formula in the symbol
abbrev pub ArePlansOf : ℕ → Formula → source.Plans → Type 0
ArePlansOf x F plans = plans_of F plans ≡ branch_plans x F
