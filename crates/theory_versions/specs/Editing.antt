-- The parts of the checks of an edit, for the clauses of private functions.
use Rattle.std.specs.Prelude.{◌≡◌, ◌≢◌, ℕ, List, Option, None, Some, Result, Ok, Err}
use Rattle.theory_meaning.specs.Edit as meaning
use Rattle.theory_meaning.specs.Edit.{edited}
use Rattle.theory_meaning.specs.Text.{Numbered, Op}
use Rattle.theory_grammar.specs.Texts.{SpellsOps, IsFirstOpsFault}
use Rattle.theory_grammar.specs.declared.text_kind.TextKind.TheVariants as text_kind
use Rattle.theory_session.specs.Editing as editing
use Rattle.theory_session.specs.Editing.{EditRequest}
use Rattle.theory_session.specs.Judged as judged
use Rattle.theory_session.specs.Row as plain
use Rattle.theory_syntax.specs.declared.text.Numbered as numbered
use Rattle.theory_syntax.specs.Plain.{lines_of}
use Rattle.theory_model.specs.Checked.{fault_of}
use Rattle.theory_model.specs.declared.changing.EditFault.{EditFault}
use Rattle.theory_model.specs.declared.changing.EditFault.TheVariants as change
use Rattle.theory_text.specs.Answers as text
use Rattle.theory_text.specs.declared.error.TextError.{TextError}
use Rattle.theory_versions.specs.declared.edited.EditRefusal.{EditRefusal}
use Rattle.theory_versions.specs.declared.edited.EditRefusal.TheVariants as refusal
use Rattle.theory_versions.specs.declared.judged.Judged.{Judged}
use Rattle.theory_versions.specs.declared.judged.Judged.TheVariants.{Repetition, Addition}
use Rattle.theory_versions.specs.Made.{IsMadeOf}

-- the fault of a text is handed on; want of memory below is want of memory
abbrev pub IsEditText : TextError → EditRefusal → Type 0
IsEditText e (refusal.Text g) = (g ≡ e) × (e.kind ≢ text_kind.Memory)
IsEditText e refusal.Memory = e.kind ≡ text_kind.Memory
IsEditText e _ = ⊥

-- and so is that of an edit
abbrev pub IsEditRefused : EditFault → EditRefusal → Type 0
IsEditRefused f (refusal.Edit g) = (g ≡ f) × (f ≢ change.Memory)
IsEditRefused f refusal.Memory = f ≡ change.Memory
IsEditRefused f _ = ⊥

-- the fault of the definitions, where it is one
abbrev pub IsEditFault : EditFault → meaning.EditFault → Type 0
IsEditFault (change.UnknownKey n) g = g ≡ meaning.unknown_key n
IsEditFault (change.ModelLine n) g = g ≡ meaning.model_line n
IsEditFault (change.After f) g = g ≡ meaning.after (fault_of f)
IsEditFault change.Memory g = ⊥

-- the body spells operations that come to this
pub record SpellsEdit (lines : List Numbered) (body : List ℕ) (r : Result (List Numbered) meaning.EditFault) : Type 0 where
  pub ops : List Op
  pub spelled : SpellsOps body ops
  pub edited : edited ops lines ≡ r

-- the lines that the operations of a body leave, or why they are refused, or want of memory
abbrev pub IsChangedOr : List Numbered → List ℕ → Result (List numbered.Numbered) EditRefusal → Type 0
IsChangedOr lines body (Ok m) = SpellsEdit lines body (Ok (lines_of m))
IsChangedOr lines body (Err (refusal.Text e)) = IsFirstOpsFault body (text.fault_of e)
IsChangedOr lines body (Err (refusal.Edit f)) = (g : meaning.EditFault) × IsEditFault f g × SpellsEdit lines body (Err g)
IsChangedOr lines body (Err refusal.Memory) = Unit {0}
IsChangedOr lines body (Err _) = ⊥

-- what is judged where an earlier request had the id, and made this version
abbrev pub IsEarlier : judged.Judged editing.EditRefusal → plain.Entry → Result Judged EditRefusal → Type 0
IsEarlier j old (Ok (Repetition m)) = (j ≡ judged.repetition old) × IsMadeOf old m
IsEarlier j old (Err (refusal.IdReused v)) = j ≡ judged.refusal (editing.id_reused v)
IsEarlier j old (Err refusal.Memory) = Unit {0}
IsEarlier j old _ = ⊥
