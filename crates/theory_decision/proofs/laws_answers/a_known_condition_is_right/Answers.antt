use Rattle.theory_decision.proofs.RegionTruth.{known_is_right}
use Rattle.theory_decision.proofs.laws_answers.a_known_condition_is_right.Goals as goal

pub returns : goal.returns
returns c = λ kind ns cs on_names C few l d among w. known_is_right kind ns cs on_names few l d among C w
