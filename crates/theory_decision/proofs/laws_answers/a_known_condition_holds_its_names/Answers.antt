use Rattle.theory_decision.proofs.RegionTruth.{known_holds_names}
use Rattle.theory_decision.proofs.laws_answers.a_known_condition_holds_its_names.Goals as goal

pub returns : goal.returns
returns c = known_holds_names
