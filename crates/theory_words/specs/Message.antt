-- What an error tells its reader.
use Rattle.std.specs.Prelude.{ℕ, List, codes}
use Rattle.theory_words.specs.declared.command.WordsFault.{WordsFault}
use Rattle.theory_words.specs.declared.command.WordsFault.TheVariants.{NoCommand, NoMemory}

-- what is told of words that aren't read as a command
abbrev pub message_of : WordsFault → List ℕ
message_of NoCommand = codes "no command"
message_of NoMemory = codes "no memory"
