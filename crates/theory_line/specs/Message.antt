-- What an error tells its reader.
use Rattle.std.specs.Prelude.{ℕ, List, codes}
use Rattle.theory_grammar.specs.declared.words.LineFaultKind.{LineFaultKind}
use Rattle.theory_grammar.specs.declared.words.LineFaultKind.TheVariants.{Unexpected, ZeroBelow, Exponent, Deep}
use Rattle.theory_line.specs.declared.fault.ParseFault.{ParseFault}
use Rattle.theory_line.specs.declared.fault.ParseFault.TheVariants.{At, Memory}

-- what is told of each kind of fault
abbrev pub kind_message : LineFaultKind → List ℕ
kind_message Unexpected = codes "a token at which no line goes on"
kind_message ZeroBelow = codes "a fraction over 0"
kind_message Exponent = codes "an exponent that isn't from 1 to 8"
kind_message Deep = codes "more than 32 open signs"

-- what is told by each fault of a line
abbrev pub message_of : ParseFault → List ℕ
message_of (At kind left) = kind_message kind
message_of Memory = codes "no memory"
