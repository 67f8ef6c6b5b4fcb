use Rattle.theory_signs.specs.Plain.{formula_of}
use Rattle.theory_subst.specs.Plans.{plans_of}
use Rattle.theory_subst.proofs.BranchLemmas.{kth_branch, kth_wide_branch, branch_sound, branch_complete, branch_is_free}
use Rattle.theory_subst.proofs.elimination.branch_at.Goals as goal

pub returns-clause-written : goal.returns-clause-written
returns-clause-written c =
    let F = formula_of c.args.formula.now in
    kth_branch c.args.x c.args.k F (plans_of F c.args.plans.now) c.by_plans.result c.requires.planned c.by_plans.ensures.written

pub returns-clause-sound : goal.returns-clause-sound
returns-clause-sound c =
    let F = formula_of c.args.formula.now in
    branch_sound c.args.x c.args.k F c.by_plans.result c.requires.linear
    (kth_branch c.args.x c.args.k F (plans_of F c.args.plans.now) c.by_plans.result c.requires.planned c.by_plans.ensures.written)

pub returns-clause-complete : goal.returns-clause-complete
returns-clause-complete c =
    let F = formula_of c.args.formula.now in
    branch_complete c.args.x c.args.k F c.by_plans.result c.requires.linear
    (kth_branch c.args.x c.args.k F (plans_of F c.args.plans.now) c.by_plans.result c.requires.planned c.by_plans.ensures.written)

pub returns-clause-free : goal.returns-clause-free
returns-clause-free c =
    let F = formula_of c.args.formula.now in
    branch_is_free c.args.x c.args.k F c.by_plans.result
    (kth_branch c.args.x c.args.k F (plans_of F c.args.plans.now) c.by_plans.result c.requires.planned c.by_plans.ensures.written)

pub returns-clause-wide : goal.returns-clause-wide
returns-clause-wide c =
    let F = formula_of c.args.formula.now in
    kth_wide_branch c.args.x c.args.k F (plans_of F c.args.plans.now) c.by_plans.result c.requires.planned c.by_plans.ensures.wide
