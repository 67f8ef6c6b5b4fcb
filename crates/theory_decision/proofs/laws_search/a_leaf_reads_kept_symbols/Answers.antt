use Rattle.theory_decision.proofs.KeptSymbols.{leaf_reads}
use Rattle.theory_decision.proofs.laws_search.a_leaf_reads_kept_symbols.Goals as goal

pub returns : goal.returns
returns c = leaf_reads
