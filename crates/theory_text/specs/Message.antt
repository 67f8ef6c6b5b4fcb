-- How faults are named to a reader.
use Rattle.std.specs.Prelude.{ℕ, List, codes}
use Rattle.theory_grammar.specs.declared.text_kind.TextKind.{TextKind}
use Rattle.theory_grammar.specs.declared.text_kind.TextKind.TheVariants as kind

-- the printed name of a kind of fault of a text; want of memory is no fault, and is never printed so
abbrev pub printed_kind : TextKind → List ℕ
printed_kind kind.TooLong = codes "TooLong"
printed_kind kind.NotUtf8 = codes "NotUtf8"
printed_kind kind.BadToken = codes "BadToken"
printed_kind kind.Unexpected = codes "Unexpected"
printed_kind kind.LiteralWide = codes "LiteralWide"
printed_kind kind.ZeroBelow = codes "ZeroBelow"
printed_kind kind.Exponent = codes "Exponent"
printed_kind kind.Deep = codes "Deep"
printed_kind kind.Memory = codes "Memory"
