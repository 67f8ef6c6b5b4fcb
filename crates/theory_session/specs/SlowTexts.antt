-- What the slow program's texts and faults stand for, and how its texts are read and edited.
use Rattle.std.specs.Prelude.{◌≡◌, ℕ, List, Result, Ok, Err}
use Rattle.theory_meaning.specs.Edit as plain
use Rattle.theory_meaning.specs.Edit.{edited}
use Rattle.theory_meaning.specs.ModelFault as plain_model
use Rattle.theory_meaning.specs.Text.{Numbered, Op}
use Rattle.theory_grammar.specs.TextFault.{Fault}
use Rattle.theory_session.specs.Reading.{spelled, faulty, IsTextRead, IsEditRead}
use Rattle.theory_session.specs.declared.slow.texts.TextFault.{TextFault}
use Rattle.theory_session.specs.declared.slow.texts.ModelFault.{ModelFault}
use Rattle.theory_session.specs.declared.slow.texts.EditFault.{EditFault}
use Rattle.theory_session.specs.declared.slow.texts.EditFault.TheVariants as edit_fault
use Rattle.theory_session.specs.declared.slow.texts.Unread.{Unread}
use Rattle.theory_session.specs.declared.slow.texts.Unread.TheVariants as unread
use Rattle.theory_session.specs.declared.slow.texts.Unchanged.{Unchanged}
use Rattle.theory_session.specs.declared.slow.texts.Unchanged.TheVariants as unchanged

-- a fault of a text
abbrev pub text_fault_of : TextFault → Fault
text_fault_of f = record { kind = f.kind; line = f.line; column = f.column }

-- a fault of a model
abbrev pub model_fault_of : ModelFault → plain_model.ModelFault
model_fault_of f = record { kind = f.kind; at = f.at }

-- a fault of an edit
abbrev pub edit_fault_of : EditFault → plain.EditFault
edit_fault_of (edit_fault.UnknownKey op) = plain.unknown_key op
edit_fault_of (edit_fault.ModelLine op) = plain.model_line op
edit_fault_of (edit_fault.After f) = plain.after (model_fault_of f)

-- the bytes are read as the lines of the text, or have the fault; but memory may run out
abbrev pub IsReadAs : {T : Type 0} → (T → List Numbered) → List ℕ → Result T Unread → Type 0
IsReadAs lines body (Ok text) = IsTextRead body (spelled (lines text))
IsReadAs lines body (Err (unread.Fault f)) = IsTextRead body (faulty (text_fault_of f))
IsReadAs lines body (Err unread.Memory) = Unit {0}

-- the bytes are read as operations, and these come to this
abbrev pub ChangesTo : List ℕ → List Numbered → Result (List Numbered) plain.EditFault → Type 0
ChangesTo body old to = (ops : List Op) × IsEditRead body (spelled ops) × (edited ops old ≡ to)

-- the operations that the bytes spell leave the lines of the text, or have a fault, or the bytes have one; but memory may run out
abbrev pub IsEditedAs : {T : Type 0} → (T → List Numbered) → List ℕ → List Numbered → Result T Unchanged → Type 0
IsEditedAs lines body old (Ok text) = ChangesTo body old (Ok (lines text))
IsEditedAs lines body old (Err (unchanged.Read f)) = IsEditRead body (faulty (text_fault_of f))
IsEditedAs lines body old (Err (unchanged.Edit f)) = ChangesTo body old (Err (edit_fault_of f))
IsEditedAs lines body old (Err unchanged.Memory) = Unit {0}
