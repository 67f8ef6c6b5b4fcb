-- The printed forms of refusals. docs/PROTOCOL.md has them in words.
use Rattle.std.specs.Prelude.{ℕ, List, ◌++◌, codes, decimal}
use Rattle.theory_meaning.specs.declared.words.ModelKind.{ModelKind}
use Rattle.theory_meaning.specs.declared.words.ModelKind.TheVariants as model_kind
use Rattle.theory_meaning.specs.Edit.{EditFault, unknown_key, model_line, after}
use Rattle.theory_meaning.specs.ModelFault.{ModelFault}
use Rattle.theory_grammar.specs.declared.text_kind.TextKind.{TextKind}
use Rattle.theory_grammar.specs.declared.text_kind.TextKind.TheVariants as text_kind
use Rattle.theory_grammar.specs.TextFault.{Fault}
use Rattle.theory_session.specs.Ask as ask
use Rattle.theory_session.specs.Ask.{AskFault}
use Rattle.theory_session.specs.Creation as creation
use Rattle.theory_session.specs.Creation.{CreateRefusal}
use Rattle.theory_session.specs.Editing as editing
use Rattle.theory_session.specs.Editing.{EditRefusal}
use Rattle.theory_session.specs.Run.{Refusal, of_creation, of_edit, of_question, of_show, keeper_fault, no_memory}
use Rattle.theory_session.specs.Showing.{ShowRefusal, no_model, no_version}

-- the name of a kind of fault of a text; want of memory is no fault, and is never printed so
abbrev pub text_kind_text : TextKind → List ℕ
text_kind_text text_kind.TooLong = codes "TooLong"
text_kind_text text_kind.NotUtf8 = codes "NotUtf8"
text_kind_text text_kind.BadToken = codes "BadToken"
text_kind_text text_kind.Unexpected = codes "Unexpected"
text_kind_text text_kind.LiteralWide = codes "LiteralWide"
text_kind_text text_kind.ZeroBelow = codes "ZeroBelow"
text_kind_text text_kind.Exponent = codes "Exponent"
text_kind_text text_kind.Deep = codes "Deep"
text_kind_text text_kind.Memory = codes "Memory"

-- the name of a kind of fault of a model; want of memory is no fault, and is never printed so
abbrev pub model_kind_text : ModelKind → List ℕ
model_kind_text model_kind.ModelLine = codes "ModelLine"
model_kind_text model_kind.KeyTwice = codes "KeyTwice"
model_kind_text model_kind.UnknownName = codes "UnknownName"
model_kind_text model_kind.BadArgument = codes "BadArgument"
model_kind_text model_kind.NoShift = codes "NoShift"
model_kind_text model_kind.NotParam = codes "NotParam"
model_kind_text model_kind.TooManySymbols = codes "TooManySymbols"
model_kind_text model_kind.TooManyLines = codes "TooManyLines"
model_kind_text model_kind.Memory = codes "Memory"

-- a fault of a text
abbrev pub text_fault_text : Fault → List ℕ
text_fault_text f = codes "Text " ++ text_kind_text f.kind ++ codes " line " ++ decimal f.line ++ codes " column " ++ decimal f.column

-- a fault of a model: its kind and its line
abbrev pub model_fault_text : ModelFault → List ℕ
model_fault_text f = model_kind_text f.kind ++ codes " line " ++ decimal f.at

-- a fault of an edit: of one operation, or of the model that it would leave
abbrev pub edit_fault_text : EditFault → List ℕ
edit_fault_text (unknown_key op) = codes "UnknownKey op " ++ decimal op
edit_fault_text (model_line op) = codes "ModelLine op " ++ decimal op
edit_fault_text (after f) = model_fault_text f

-- why a creation is refused
abbrev pub create_refusal_text : CreateRefusal → List ℕ
create_refusal_text (creation.text f) = text_fault_text f
create_refusal_text (creation.model f) = codes "Model " ++ model_fault_text f
create_refusal_text (creation.id_reused version) = codes "IdReused " ++ decimal version
create_refusal_text creation.name_taken = codes "NameTaken"
create_refusal_text creation.models_full = codes "ModelsFull"
create_refusal_text creation.text_full = codes "TextFull"

-- why an edit is refused
abbrev pub edit_refusal_text : EditRefusal → List ℕ
edit_refusal_text editing.unknown_model = codes "UnknownModel"
edit_refusal_text (editing.id_reused version) = codes "IdReused " ++ decimal version
edit_refusal_text (editing.stale last) = codes "Stale " ++ decimal last
edit_refusal_text (editing.text f) = text_fault_text f
edit_refusal_text (editing.edit f) = codes "Edit " ++ edit_fault_text f
edit_refusal_text editing.versions_full = codes "VersionsFull"
edit_refusal_text editing.text_full = codes "TextFull"

-- why a question is refused
abbrev pub fault_text : AskFault → List ℕ
fault_text ask.unknown_model = codes "UnknownModel"
fault_text (ask.unknown_version last) = codes "UnknownVersion " ++ decimal last
fault_text ask.unknown_claim = codes "UnknownClaim"
fault_text (ask.unknown_name place) = codes "UnknownName " ++ decimal place

-- why a version isn't shown
abbrev pub show_refusal_text : ShowRefusal → List ℕ
show_refusal_text no_model = codes "UnknownModel"
show_refusal_text (no_version last) = codes "UnknownVersion " ++ decimal last

-- why a request is refused
abbrev pub refusal_text : Refusal → List ℕ
refusal_text (of_creation r) = create_refusal_text r
refusal_text (of_edit r) = edit_refusal_text r
refusal_text (of_question r) = fault_text r
refusal_text (of_show r) = show_refusal_text r
refusal_text keeper_fault = codes "KeeperFault"
refusal_text no_memory = codes "NoMemory"
