use Rattle.std.proofs.Common.{subst}
use Rattle.theory_decision.specs.Outcomes.{IsSearch}
use Rattle.theory_signs.specs.Plain.{formula_of}
use Rattle.theory_search.specs.declared.outcome.Outcome as found
use Rattle.theory_search.specs.Outcomes.{failure_of, outcome_of, path_of}
use Rattle.theory_decide.proofs.HalfLemmas.{hit_is_path, failure_is_named}
use Rattle.theory_decide.proofs.halves.half_of_formula.Goals as goal

pub half_of_path-requires-clause-hit : goal.half_of_path-requires-clause-hit
half_of_path-requires-clause-hit g c =
    hit_is_path c.args.policy.now.kind c.args.symbols.now (formula_of c.args.formula.now) c.requires.named (path_of c.in-Hit.path.items) c.requires.proper
    (subst (λ (o : found.Outcome). IsSearch c.args.policy.now.kind (formula_of c.args.formula.now) (outcome_of o)) c.in-Hit.is c.in_ok-path.ensures.written)

pub cause-requires : goal.cause-requires
cause-requires g c =
    failure_is_named c.args.policy.now.kind c.args.symbols.now (formula_of c.args.formula.now) c.requires.named (failure_of c.in-Failed.failure)
    (subst (λ (o : found.Outcome). IsSearch c.args.policy.now.kind (formula_of c.args.formula.now) (outcome_of o)) c.in-Failed.is c.in_ok-path.ensures.written)
