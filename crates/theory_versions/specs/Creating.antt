-- The parts of the checks of a creation, for the clauses of private functions.
use Rattle.std.specs.Prelude.{◌≡◌, ◌≢◌, ℕ, List, Option, None, Some, Result, Ok, Err}
use Rattle.theory_meaning.specs.Edit.{IsModel}
use Rattle.theory_meaning.specs.ModelFault as meaning
use Rattle.theory_meaning.specs.ModelFault.{model_fault}
use Rattle.theory_meaning.specs.Text.{Numbered}
use Rattle.theory_meaning.specs.declared.words.ModelKind.TheVariants as model_kind
use Rattle.theory_grammar.specs.Texts.{SpellsLines, IsFirstFault}
use Rattle.theory_grammar.specs.declared.text_kind.TextKind.TheVariants as text_kind
use Rattle.theory_session.specs.Creation as creation
use Rattle.theory_session.specs.Creation.{CreateRequest, CreateRefusal}
use Rattle.theory_session.specs.Judged as judged
use Rattle.theory_session.specs.Row as plain
use Rattle.theory_syntax.specs.declared.text.Numbered as numbered
use Rattle.theory_syntax.specs.Plain.{lines_of}
use Rattle.theory_model.specs.Checked as model
use Rattle.theory_model.specs.declared.faults.ModelFault.{ModelFault}
use Rattle.theory_text.specs.Answers as text
use Rattle.theory_text.specs.declared.error.TextError.{TextError}
use Rattle.theory_versions.specs.declared.created.CreateFault.{CreateFault}
use Rattle.theory_versions.specs.declared.created.CreateFault.TheVariants as fault
use Rattle.theory_versions.specs.declared.entry.Entry.{Entry}
use Rattle.theory_versions.specs.declared.judged.Judged.{Judged}
use Rattle.theory_versions.specs.declared.judged.Judged.TheVariants.{Repetition, Addition}
use Rattle.theory_versions.specs.Entries.{entry_of}
use Rattle.theory_versions.specs.Made.{IsMadeOf}

-- the body spells lines that are no model, with this first fault
pub record IsNoModel (body : List ℕ) (f : meaning.ModelFault) : Type 0 where
  pub lines : List Numbered
  pub spelled : SpellsLines body lines
  pub faulty : model_fault lines ≡ Some f

-- the fault of a text is handed on; want of memory below is want of memory
abbrev pub IsTextFault : TextError → CreateFault → Type 0
IsTextFault e (fault.Text g) = (g ≡ e) × (e.kind ≢ text_kind.Memory)
IsTextFault e fault.Memory = e.kind ≡ text_kind.Memory
IsTextFault e _ = ⊥

-- and so is that of a model
abbrev pub IsModelFault : ModelFault → CreateFault → Type 0
IsModelFault f (fault.Model g) = (g ≡ f) × (f.kind ≢ model_kind.Memory)
IsModelFault f fault.Memory = f.kind ≡ model_kind.Memory
IsModelFault f _ = ⊥

-- why a body spells no model, or want of memory
abbrev pub IsBodyFault : List ℕ → CreateFault → Type 0
IsBodyFault body (fault.Text e) = IsFirstFault body (text.fault_of e)
IsBodyFault body (fault.Model f) = IsNoModel body (model.fault_of f)
IsBodyFault body fault.Memory = Unit {0}
IsBodyFault body _ = ⊥

-- the body spells a model of these lines
pub record SpellsModel (body : List ℕ) (lines : List Numbered) : Type 0 where
  pub spelled : SpellsLines body lines
  pub checked : IsModel lines

-- the model that a body spells, or why it spells none
abbrev pub IsModelOr : List ℕ → Result (List numbered.Numbered) CreateFault → Type 0
IsModelOr body (Ok m) = SpellsModel body (lines_of m)
IsModelOr body (Err f) = IsBodyFault body f

-- the entry is version 1 by a request, whose body is of this format
pub record IsFirst (format : ℕ) (r : CreateRequest) (e : plain.Entry) : Type 0 where
  pub model : SpellsModel r.body e.lines
  pub same : e ≡ creation.first_entry format r e.lines

-- version 1 by a request, or why its body is refused
abbrev pub IsFirstOr : ℕ → CreateRequest → Result Entry CreateFault → Type 0
IsFirstOr format r (Ok e) = IsFirst format r (entry_of e)
IsFirstOr format r (Err f) = IsBodyFault r.body f

-- what is judged where the model is there, with this version 1
abbrev pub IsAgain : judged.Judged CreateRefusal → plain.Entry → Result Judged CreateFault → Type 0
IsAgain j old (Ok (Repetition m)) = (j ≡ judged.repetition old) × IsMadeOf old m
IsAgain j old (Err (fault.IdReused v)) = j ≡ judged.refusal (creation.id_reused v)
IsAgain j old (Err fault.NameTaken) = j ≡ judged.refusal creation.name_taken
IsAgain j old (Err fault.Memory) = Unit {0}
IsAgain j old _ = ⊥
