use Rattle.std.proofs.Common.{sym, subst, map, IfOk}
use Rattle.std.specs.Prelude.{◌≡◌}
use Rattle.theory_formula.specs.Formula as tree
use Rattle.theory_elimination.specs.Branches as written
use Rattle.theory_subst.specs.Plans.{plan_of}
use Rattle.theory_subst.proofs.planning.root_plans.Goals as goal

pub returns-in-None : goal.returns-in-None
returns-in-None c =
    subst (λ b. IfOk c.root_plans_by_sign.result (λ roots. (F : tree.Formula) →
    map (plan_of F) roots.items ≡ written.root_plans b c.args.slope c.args.base F)) (sym c.in-None.ensures) c.root_plans_by_sign.ensures
