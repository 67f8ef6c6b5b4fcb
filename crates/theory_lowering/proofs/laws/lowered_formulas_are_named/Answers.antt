use Rattle.theory_lowering.proofs.LoweredAtoms.{lowered_named}
use Rattle.theory_lowering.proofs.laws.lowered_formulas_are_named.Goals as goal

pub returns : goal.returns
returns c = lowered_named
