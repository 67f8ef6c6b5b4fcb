use Rattle.std.proofs.Common.{map, Some}
use Rattle.std.specs.Prelude.{◌≡◌, slice_get}
use Rattle.theory_elimination.specs.Branches.{Plan}
use Rattle.theory_signs.specs.Plain.{formula_of}
use Rattle.theory_subst.specs.Plans.{plan_of, left_of}
use Rattle.theory_subst.proofs.PlanLemmas.{root_plan, no_root_plan, kth_written, kth_wide, kth_not_wide, past_not_wide}
use Rattle.theory_subst.proofs.elimination.by_root.Goals as goal

pub returns-in-Ok-clause-written : goal.returns-in-Ok-clause-written
returns-in-Ok-clause-written c =
    let F = left_of c.args.place (formula_of c.args.formula.now) in
    let plans = map (plan_of F) c.args.roots.now in
    let plan : Plan = plan_of F c.in-Some.plan.now in
    let is : slice_get plans c.args.k ≡ Some plan =
    root_plan F c.args.roots.now c.args.k c.in-Some.plan.now c.in-Some.ensures.lookup.3.0 c.in-Some.ensures.lookup.1
    in
    kth_written c.args.x c.args.k plans plan c.in-Ok.found is c.in-Ok.ensures.written

pub returns-in-Ok-clause-wide : goal.returns-in-Ok-clause-wide
returns-in-Ok-clause-wide c =
    let F = left_of c.args.place (formula_of c.args.formula.now) in
    let plans = map (plan_of F) c.args.roots.now in
    let plan : Plan = plan_of F c.in-Some.plan.now in
    let is : slice_get plans c.args.k ≡ Some plan =
    root_plan F c.args.roots.now c.args.k c.in-Some.plan.now c.in-Some.ensures.lookup.3.0 c.in-Some.ensures.lookup.1
    in
    kth_not_wide c.args.x c.args.k plans plan is c.in-Ok.ensures.wide

pub returns-in-Err-clause-wide : goal.returns-in-Err-clause-wide
returns-in-Err-clause-wide c =
    let F = left_of c.args.place (formula_of c.args.formula.now) in
    let plans = map (plan_of F) c.args.roots.now in
    let plan : Plan = plan_of F c.in-Some.plan.now in
    let is : slice_get plans c.args.k ≡ Some plan =
    root_plan F c.args.roots.now c.args.k c.in-Some.plan.now c.in-Some.ensures.lookup.3.0 c.in-Some.ensures.lookup.1
    in
    kth_wide c.args.x c.args.k plans plan c.in-Err.limit is c.in-Err.ensures.wide

pub returns-in-None-clause-wide : goal.returns-in-None-clause-wide
returns-in-None-clause-wide c =
    let F = left_of c.args.place (formula_of c.args.formula.now) in
    past_not_wide c.args.x (map (plan_of F) c.args.roots.now) c.args.k (no_root_plan F c.args.roots.now c.args.k c.in-None.ensures.lookup.3)
