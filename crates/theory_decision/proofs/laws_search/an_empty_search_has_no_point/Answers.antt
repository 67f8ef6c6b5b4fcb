use Rattle.theory_decision.proofs.OutcomeTruth.{empty_has_none}
use Rattle.theory_decision.proofs.laws_search.an_empty_search_has_no_point.Goals as goal

pub returns : goal.returns
returns c = empty_has_none
