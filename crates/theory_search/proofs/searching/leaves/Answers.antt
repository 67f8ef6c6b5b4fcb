use Rattle.std.proofs.Common.{rules}
use Rattle.theory_decision.specs.Outcomes.{AreLeaves}
use Rattle.theory_signs.specs.Plain.{formula_of}
use Rattle.theory_search.specs.Outcomes.{plain_leaves}
use Rattle.theory_search.proofs.OutcomeLemmas.{what_leaves_say, what_leaves_hold}
use Rattle.theory_search.proofs.searching.leaves.Goals as goal

pub returns-clause-right : goal.returns-clause-right
returns-clause-right g c =
    let F = formula_of c.args.formula.now in
    let l = plain_leaves c.leaves_by.result in
    let found : AreLeaves c.args.keep.now c.args.policy.now.kind F l = search rules in
    what_leaves_say c.args.keep.now c.args.policy.now.kind F l c.in_ok-run.ensures.proper found

pub returns-clause-kept : goal.returns-clause-kept
returns-clause-kept g c =
    let F = formula_of c.args.formula.now in
    let l = plain_leaves c.leaves_by.result in
    let found : AreLeaves c.args.keep.now c.args.policy.now.kind F l = search rules in
    what_leaves_hold c.args.keep.now c.args.policy.now.kind F l c.in_ok-run.ensures.proper found
