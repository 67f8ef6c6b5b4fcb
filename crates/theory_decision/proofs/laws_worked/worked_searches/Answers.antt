use Rattle.theory_decision.proofs.WorkedRuns.{positive_hits, none_is_empty, curved_is_stuck}
use Rattle.theory_decision.proofs.laws_worked.worked_searches.Goals as goal

pub returns-clause-hit : goal.returns-clause-hit
returns-clause-hit c = positive_hits

pub returns-clause-no_point : goal.returns-clause-no_point
returns-clause-no_point c = none_is_empty

pub returns-clause-curved : goal.returns-clause-curved
returns-clause-curved c = curved_is_stuck
