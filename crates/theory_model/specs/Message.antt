-- How faults are named to a reader.
use Rattle.std.specs.Prelude.{ℕ, List, codes}
use Rattle.theory_meaning.specs.declared.words.ModelKind.{ModelKind}
use Rattle.theory_meaning.specs.declared.words.ModelKind.TheVariants as kind
use Rattle.theory_model.specs.declared.changing.EditFault.{EditFault}
use Rattle.theory_model.specs.declared.changing.EditFault.TheVariants.{UnknownKey, ModelLine, After, Memory}

-- the printed name of a kind of fault of a model; want of memory is no fault, and is never printed so
abbrev pub printed_kind : ModelKind → List ℕ
printed_kind kind.ModelLine = codes "ModelLine"
printed_kind kind.KeyTwice = codes "KeyTwice"
printed_kind kind.UnknownName = codes "UnknownName"
printed_kind kind.BadArgument = codes "BadArgument"
printed_kind kind.NoShift = codes "NoShift"
printed_kind kind.NotParam = codes "NotParam"
printed_kind kind.TooManySymbols = codes "TooManySymbols"
printed_kind kind.TooManyLines = codes "TooManyLines"
printed_kind kind.Memory = codes "Memory"

-- what a refused edit tells
abbrev pub message_of : EditFault → List ℕ
message_of (UnknownKey n) = codes "no line has the key to drop"
message_of (ModelLine n) = codes "a model line is put"
message_of (After f) = codes "the changed lines are no model"
message_of Memory = codes "no memory"
