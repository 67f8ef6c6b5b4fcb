-- The replies that the answers of a desk stand for.
use Rattle.std.specs.Prelude.{ℕ, zero, suc, List, map, Option, None, Some, Result, Ok, Err}
use Rattle.theory_meaning.specs.Edit as meaning
use Rattle.theory_meaning.specs.Point.{Name}
use Rattle.theory_session.specs.Creation as creation
use Rattle.theory_session.specs.Editing as editing
use Rattle.theory_session.specs.Run.{Refusal, of_creation, of_edit, of_show, keeper_fault, no_memory, Reply, created, edited, shown, listed, refused}
use Rattle.theory_session.specs.Showing as showing
use Rattle.theory_model.specs.Checked as model
use Rattle.theory_model.specs.declared.changing.EditFault.{EditFault}
use Rattle.theory_model.specs.declared.changing.EditFault.TheVariants as change
use Rattle.theory_points.specs.declared.limit.NoMemory.{NoMemory}
use Rattle.theory_text.specs.Answers as text
use Rattle.theory_versions.specs.declared.created.Created.{Created}
use Rattle.theory_versions.specs.declared.created.CreateFault.{CreateFault}
use Rattle.theory_versions.specs.declared.created.CreateFault.TheVariants as fault
use Rattle.theory_versions.specs.declared.edited.Edited.{Edited}
use Rattle.theory_versions.specs.declared.edited.EditRefusal.{EditRefusal}
use Rattle.theory_versions.specs.declared.edited.EditRefusal.TheVariants as refusal
use Rattle.theory_versions.specs.declared.shown.Last.{Last}
use Rattle.theory_versions.specs.declared.shown.Shown.{Shown}
use Rattle.theory_versions.specs.declared.shown.ShowFault.{ShowFault}
use Rattle.theory_versions.specs.declared.shown.ShowFault.TheVariants as show_fault

-- why a creation is refused
abbrev pub create_refusal : CreateFault → Refusal
create_refusal (fault.Text e) = of_creation (creation.text (text.fault_of e))
create_refusal (fault.Model f) = of_creation (creation.model (model.fault_of f))
create_refusal (fault.IdReused v) = of_creation (creation.id_reused v)
create_refusal fault.NameTaken = of_creation creation.name_taken
create_refusal fault.ModelsFull = of_creation creation.models_full
create_refusal fault.TextFull = of_creation creation.text_full
create_refusal fault.KeeperFault = keeper_fault
create_refusal fault.Memory = no_memory

-- the reply to a creation
abbrev pub create_reply : Result Created CreateFault → Reply
create_reply (Ok c) = created c.model c.version
create_reply (Err f) = refused (create_refusal f)

-- why the operations of an edit are refused; want of memory is never told so
abbrev pub change_refusal : EditFault → Refusal
change_refusal (change.UnknownKey n) = of_edit (editing.edit (meaning.unknown_key n))
change_refusal (change.ModelLine n) = of_edit (editing.edit (meaning.model_line n))
change_refusal (change.After f) = of_edit (editing.edit (meaning.after (model.fault_of f)))
change_refusal change.Memory = no_memory

-- why an edit is refused
abbrev pub edit_refusal : EditRefusal → Refusal
edit_refusal refusal.UnknownModel = of_edit editing.unknown_model
edit_refusal (refusal.IdReused v) = of_edit (editing.id_reused v)
edit_refusal (refusal.Stale v) = of_edit (editing.stale v)
edit_refusal (refusal.Text e) = of_edit (editing.text (text.fault_of e))
edit_refusal (refusal.Edit f) = change_refusal f
edit_refusal refusal.VersionsFull = of_edit editing.versions_full
edit_refusal refusal.TextFull = of_edit editing.text_full
edit_refusal refusal.KeeperFault = keeper_fault
edit_refusal refusal.Memory = no_memory

-- the reply to an edit
abbrev pub edit_reply : Result Edited EditRefusal → Reply
edit_reply (Ok e) = edited e.model e.version
edit_reply (Err r) = refused (edit_refusal r)

-- why a version isn't shown
abbrev pub show_refusal : ShowFault → Refusal
show_refusal show_fault.UnknownModel = of_show showing.no_model
show_refusal (show_fault.UnknownVersion last) = of_show (showing.no_version last)
show_refusal show_fault.Memory = no_memory

-- the reply that shows a version
abbrev pub show_reply : Result Shown ShowFault → Reply
show_reply (Ok s) = shown s.model s.version s.text
show_reply (Err f) = refused (show_refusal f)

-- a model with its last version
abbrev pub last_of : Last → Name × ℕ
last_of l = (l.model, l.version)

-- the reply that lists the models
abbrev pub list_reply : Result (List Last) NoMemory → Reply
list_reply (Ok ls) = listed (map last_of ls)
list_reply (Err _) = refused no_memory

-- a number above 0
abbrev pub where_above_0 : ℕ → Option ℕ
where_above_0 zero = None
where_above_0 (suc n) = Some (suc n)
