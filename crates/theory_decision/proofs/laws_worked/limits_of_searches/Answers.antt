use Rattle.theory_decision.proofs.WorkedRuns.{decided_below, large_below, last_visit, no_visit, earlier_failure, wide_visit}
use Rattle.theory_decision.proofs.laws_worked.limits_of_searches.Goals as goal

pub returns-clause-decided : goal.returns-clause-decided
returns-clause-decided c = decided_below

pub returns-clause-deeper : goal.returns-clause-deeper
returns-clause-deeper c = large_below

pub returns-clause-last : goal.returns-clause-last
returns-clause-last c = last_visit

pub returns-clause-spent : goal.returns-clause-spent
returns-clause-spent c = no_visit

pub returns-clause-earlier : goal.returns-clause-earlier
returns-clause-earlier c = earlier_failure

pub returns-clause-too_wide : goal.returns-clause-too_wide
returns-clause-too_wide c = wide_visit
