use Rattle.theory_derivative.proofs.SentenceNames.{sentences_are_ready}
use Rattle.theory_derivative.proofs.laws.sentences_hold_listed_symbols.Goals as goal

pub returns : goal.returns
returns c = sentences_are_ready
