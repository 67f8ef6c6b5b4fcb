use Rattle.theory_lower.proofs.FunctionLaws.{not_beyond, itself}
use Rattle.theory_lower.proofs.functions.kept.Goals as goal

pub returns-clause-wide : goal.returns-clause-wide
returns-clause-wide c =
    let kept = c.terms.ensures.kept in
    not_beyond c.args.bottom.now c.args.bottom.now (itself c.args.bottom.now kept.ordered) kept
