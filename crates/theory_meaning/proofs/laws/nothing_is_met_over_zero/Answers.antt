use Rattle.theory_meaning.proofs.SymbolLaws.{over_zero}
use Rattle.theory_meaning.proofs.laws.nothing_is_met_over_zero.Goals as goal

pub returns : goal.returns
returns c = over_zero
