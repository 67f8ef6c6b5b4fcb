use Rattle.theory_words.proofs.SomeCommand.{some_check, some_derivation}
use Rattle.theory_words.proofs.laws.other_words_are_a_command.Goals as goal

pub returns-clause-check : goal.returns-clause-check
returns-clause-check c = some_check

pub returns-clause-derive : goal.returns-clause-derive
returns-clause-derive c = some_derivation
