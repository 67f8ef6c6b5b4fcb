-- What calls that read words answer.
use Rattle.std.specs.Prelude.{◌≡◌, List, Option, Some, None, option_map, Result, Ok, Err}
use Rattle.clap.specs.Words.{Row, Text, found_of, rows_of}
use Rattle.clap.specs.declared.parser.matches.ArgMatches.{ArgMatches}
use Rattle.theory_words.specs.Commands as plain
use Rattle.theory_words.specs.Commands.{names_given, IsCommand, IsNoCommand}
use Rattle.theory_words.specs.declared.command.Command.{Command}
use Rattle.theory_words.specs.declared.command.Command.TheVariants.{Check, Derive}
use Rattle.theory_words.specs.declared.command.WordsFault.{WordsFault}
use Rattle.theory_words.specs.declared.command.WordsFault.TheVariants.{NoCommand, NoMemory}

-- the command that was read
abbrev pub command_of : Command → plain.Command
command_of (Check file order on) = plain.check file.now order (names_given (option_map (λ text. text.now) on))
command_of (Derive file) = plain.derive file.now

-- the words are the command, or no command; want of memory is free
abbrev pub AreReadAs : List Text → Result Command WordsFault → Type 0
AreReadAs words (Ok command) = IsCommand words (command_of command)
AreReadAs words (Err NoCommand) = IsNoCommand words
AreReadAs words (Err NoMemory) = Unit {0}

-- what was read is the command, or there is none; want of memory is free
abbrev pub IsReadAs : Option plain.Command → Result Command WordsFault → Type 0
IsReadAs command (Ok read) = command ≡ Some (command_of read)
IsReadAs command (Err NoCommand) = command ≡ None
IsReadAs command (Err NoMemory) = Unit {0}

-- what was found is what is found in the words, or there is nothing; want of memory is free
abbrev pub IsFoundAs : Option (List Row) → Result ArgMatches WordsFault → Type 0
IsFoundAs found (Ok matches) = found ≡ Some (rows_of (found_of matches))
IsFoundAs found (Err NoCommand) = found ≡ None
IsFoundAs found (Err NoMemory) = Unit {0}
