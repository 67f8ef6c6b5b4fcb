use Rattle.theory_lowering.proofs.LoweredLaws.{lowered_truth}
use Rattle.theory_lowering.proofs.laws.lowered_formulas_keep_truth.Goals as goal

pub returns : goal.returns
returns c = lowered_truth
