use Rattle.std.proofs.Common.{rules}
use Rattle.theory_decision.specs.Outcomes.{IsSearch}
use Rattle.theory_signs.specs.Plain.{formula_of}
use Rattle.theory_search.specs.Outcomes.{outcome_of}
use Rattle.theory_search.specs.Runs.{run_of}
use Rattle.theory_search.proofs.OutcomeLemmas.{outcome_is_right, no_leaf}
use Rattle.theory_search.proofs.searching.search.Goals as goal

pub outcome-requires : goal.outcome-requires
outcome-requires g c =
    no_leaf c.args.policy.now.kind (formula_of c.args.formula.now) (run_of c.in_ok-run.run' c.in_ok-run.progress) c.in_ok-run.ensures.proper
    c.in_ok-run.ensures.written

pub returns-clause-right : goal.returns-clause-right
returns-clause-right g c =
    let searched : IsSearch c.args.policy.now.kind (formula_of c.args.formula.now) (outcome_of c.outcome.result) = search rules in
    outcome_is_right c.args.policy.now.kind (formula_of c.args.formula.now) (outcome_of c.outcome.result) c.in_ok-run.ensures.proper searched
