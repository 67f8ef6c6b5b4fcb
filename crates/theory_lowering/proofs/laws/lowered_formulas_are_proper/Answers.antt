use Rattle.theory_lowering.proofs.LoweredAtoms.{lowered_proper}
use Rattle.theory_lowering.proofs.laws.lowered_formulas_are_proper.Goals as goal

pub returns : goal.returns
returns c = lowered_proper
