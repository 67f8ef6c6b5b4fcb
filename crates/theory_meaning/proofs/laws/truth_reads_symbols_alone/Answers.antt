use Rattle.theory_meaning.proofs.SymbolLaws.{truth}
use Rattle.theory_meaning.proofs.laws.truth_reads_symbols_alone.Goals as goal

pub returns : goal.returns
returns c = truth
