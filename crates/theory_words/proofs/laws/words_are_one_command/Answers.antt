use Rattle.theory_words.proofs.Refusals.{one}
use Rattle.theory_words.proofs.laws.words_are_one_command.Goals as goal

pub returns : goal.returns
returns c = one
