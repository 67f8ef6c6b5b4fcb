use Rattle.theory_decision.proofs.WorkedRuns.{top_candidates, inner_candidates}
use Rattle.theory_decision.proofs.laws_worked.worked_candidates.Goals as goal

pub returns-clause-top : goal.returns-clause-top
returns-clause-top c = top_candidates

pub returns-clause-inner : goal.returns-clause-inner
returns-clause-inner c = inner_candidates
