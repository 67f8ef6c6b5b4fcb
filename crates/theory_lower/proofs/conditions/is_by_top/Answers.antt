use Rattle.theory_lower.proofs.ConditionLemmas.{by_bottom}
use Rattle.theory_lower.proofs.conditions.is_by_top.Goals as goal

pub returns-in-Neg : goal.returns-in-Neg
returns-in-Neg c =
    by_bottom c.args.of.now c.args.signs c.bottom.result.now c.args.unit.now c.eq.result c.eq.ensures c.bottom.ensures.value c.requires c.in-Neg.is
