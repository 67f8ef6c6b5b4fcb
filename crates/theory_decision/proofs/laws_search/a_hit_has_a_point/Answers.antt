use Rattle.theory_decision.proofs.OutcomeTruth.{hit_has_one}
use Rattle.theory_decision.proofs.laws_search.a_hit_has_a_point.Goals as goal

pub returns : goal.returns
returns c = hit_has_one
