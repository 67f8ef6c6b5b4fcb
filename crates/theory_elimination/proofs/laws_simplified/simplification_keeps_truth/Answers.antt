use Rattle.theory_elimination.proofs.SimplifiedTruth.{simplified_truth}
use Rattle.theory_elimination.proofs.laws_simplified.simplification_keeps_truth.Goals as goal

pub returns : goal.returns
returns c = λ K F p h. simplified_truth p K F h
