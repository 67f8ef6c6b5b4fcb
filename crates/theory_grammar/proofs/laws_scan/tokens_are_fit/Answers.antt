use Rattle.theory_grammar.proofs.FitLaws.{reads_fit}
use Rattle.theory_grammar.proofs.laws_scan.tokens_are_fit.Goals as goal

pub returns : goal.returns
returns c = reads_fit 1
