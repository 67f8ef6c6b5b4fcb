use Rattle.std.proofs.Common.{map, Some}
use Rattle.std.specs.Prelude.{◌≡◌, slice_get}
use Rattle.theory_elimination.specs.Branches.{Plan, plan_at}
use Rattle.theory_signs.specs.Plain.{formula_of}
use Rattle.theory_subst.specs.Points.{point_of, points_of}
use Rattle.theory_subst.proofs.PlanLemmas.{point_plan, no_point_plan, kth_written, kth_wide, kth_not_wide, past_not_wide}
use Rattle.theory_subst.proofs.elimination.by_point.Goals as goal

pub returns-in-Ok-clause-written : goal.returns-in-Ok-clause-written
returns-in-Ok-clause-written c =
    let F = formula_of c.args.formula.now in
    let plans = map (plan_at F) (points_of c.args.points.now) in
    let plan : Plan = plan_at F (point_of c.in-Some.point.now) in
    let is : slice_get plans c.args.k ≡ Some plan =
    point_plan F c.args.points.now c.args.k c.in-Some.point.now c.in-Some.ensures.lookup.3.0 c.in-Some.ensures.lookup.1
    in
    kth_written c.args.x c.args.k plans plan c.in-Ok.found is c.in-Ok.ensures.written

pub returns-in-Ok-clause-wide : goal.returns-in-Ok-clause-wide
returns-in-Ok-clause-wide c =
    let F = formula_of c.args.formula.now in
    let plans = map (plan_at F) (points_of c.args.points.now) in
    let plan : Plan = plan_at F (point_of c.in-Some.point.now) in
    let is : slice_get plans c.args.k ≡ Some plan =
    point_plan F c.args.points.now c.args.k c.in-Some.point.now c.in-Some.ensures.lookup.3.0 c.in-Some.ensures.lookup.1
    in
    kth_not_wide c.args.x c.args.k plans plan is c.in-Ok.ensures.wide

pub returns-in-Err-clause-wide : goal.returns-in-Err-clause-wide
returns-in-Err-clause-wide c =
    let F = formula_of c.args.formula.now in
    let plans = map (plan_at F) (points_of c.args.points.now) in
    let plan : Plan = plan_at F (point_of c.in-Some.point.now) in
    let is : slice_get plans c.args.k ≡ Some plan =
    point_plan F c.args.points.now c.args.k c.in-Some.point.now c.in-Some.ensures.lookup.3.0 c.in-Some.ensures.lookup.1
    in
    kth_wide c.args.x c.args.k plans plan c.in-Err.limit is c.in-Err.ensures.wide

pub returns-in-None-clause-wide : goal.returns-in-None-clause-wide
returns-in-None-clause-wide c =
    let F = formula_of c.args.formula.now in
    past_not_wide c.args.x (map (plan_at F) (points_of c.args.points.now)) c.args.k (no_point_plan F c.args.points.now c.args.k c.in-None.ensures.lookup.3)
