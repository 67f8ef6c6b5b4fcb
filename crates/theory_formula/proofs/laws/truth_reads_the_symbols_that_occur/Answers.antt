use Rattle.theory_formula.proofs.ReadSymbols.{truth_reads}
use Rattle.theory_formula.proofs.laws.truth_reads_the_symbols_that_occur.Goals as goal

pub returns : goal.returns
returns c F p q h = truth_reads p q F h
