-- What the slow program's versions, requests and replies stand for.
use Rattle.std.specs.Prelude.{ℕ, List, map}
use Rattle.theory_meaning.specs.Point.{Name}
use Rattle.theory_meaning.specs.Text.{Numbered}
use Rattle.theory_session.specs.Creation as creation
use Rattle.theory_session.specs.Editing as editing
use Rattle.theory_session.specs.Row as plain
use Rattle.theory_session.specs.Row.{Entry}
use Rattle.theory_session.specs.Run as run
use Rattle.theory_session.specs.Showing as showing
use Rattle.theory_session.specs.SlowTexts.{text_fault_of, model_fault_of, edit_fault_of}
use Rattle.theory_session.specs.declared.slow.versions.Row.{Row}
use Rattle.theory_session.specs.declared.slow.versions.Version.{Version}
use Rattle.theory_session.specs.declared.slow.versions.CreateRequest.{CreateRequest}
use Rattle.theory_session.specs.declared.slow.versions.EditRequest.{EditRequest}
use Rattle.theory_session.specs.declared.slow.replies.CreateRefusal.{CreateRefusal}
use Rattle.theory_session.specs.declared.slow.replies.CreateRefusal.TheVariants as create_refusal
use Rattle.theory_session.specs.declared.slow.replies.EditRefusal.{EditRefusal}
use Rattle.theory_session.specs.declared.slow.replies.EditRefusal.TheVariants as edit_refusal
use Rattle.theory_session.specs.declared.slow.replies.ShowRefusal.{ShowRefusal}
use Rattle.theory_session.specs.declared.slow.replies.ShowRefusal.TheVariants as show_refusal
use Rattle.theory_session.specs.declared.slow.replies.Refusal.{Refusal}
use Rattle.theory_session.specs.declared.slow.replies.Refusal.TheVariants as refusal
use Rattle.theory_session.specs.declared.slow.replies.ModelVersion.{ModelVersion}
use Rattle.theory_session.specs.declared.slow.replies.Reply.{Reply}
use Rattle.theory_session.specs.declared.slow.replies.Reply.TheVariants as reply

-- a creation
abbrev pub create_request_of : CreateRequest → creation.CreateRequest
create_request_of r = record { id = r.id.items; body = r.body.items }

-- an edit
abbrev pub edit_request_of : EditRequest → editing.EditRequest
edit_request_of r = record { model = r.model.items; base = r.base; id = r.id.items; body = r.body.items }

-- a row
abbrev pub row_of : Row → plain.Row
row_of r =
    record {
      format = r.format;
      model = r.model.items;
      version = r.version;
      base = r.base;
      id = r.id.items;
      body = r.body.items;
    }

-- a version, by the lines of texts
abbrev pub entry_of : {T : Type 0} → (T → List Numbered) → Version T → Entry
entry_of lines v = record { row = row_of v.row; lines = lines v.text }

-- versions
abbrev pub entries_of : {T : Type 0} → (T → List Numbered) → List (Version T) → List Entry
entries_of lines = map (entry_of lines)

-- why a creation is refused
abbrev pub create_refusal_of : CreateRefusal → creation.CreateRefusal
create_refusal_of (create_refusal.Text f) = creation.text (text_fault_of f)
create_refusal_of (create_refusal.Model f) = creation.model (model_fault_of f)
create_refusal_of (create_refusal.IdReused version) = creation.id_reused version
create_refusal_of create_refusal.NameTaken = creation.name_taken
create_refusal_of create_refusal.ModelsFull = creation.models_full
create_refusal_of create_refusal.TextFull = creation.text_full

-- why an edit is refused
abbrev pub edit_refusal_of : EditRefusal → editing.EditRefusal
edit_refusal_of edit_refusal.UnknownModel = editing.unknown_model
edit_refusal_of (edit_refusal.IdReused version) = editing.id_reused version
edit_refusal_of (edit_refusal.Stale last) = editing.stale last
edit_refusal_of (edit_refusal.Text f) = editing.text (text_fault_of f)
edit_refusal_of (edit_refusal.Edit f) = editing.edit (edit_fault_of f)
edit_refusal_of edit_refusal.VersionsFull = editing.versions_full
edit_refusal_of edit_refusal.TextFull = editing.text_full

-- why a version isn't shown
abbrev pub show_refusal_of : ShowRefusal → showing.ShowRefusal
show_refusal_of show_refusal.UnknownModel = showing.no_model
show_refusal_of (show_refusal.UnknownVersion last) = showing.no_version last

-- why a request is refused
abbrev pub refusal_of : Refusal → run.Refusal
refusal_of (refusal.Creation r) = run.of_creation (create_refusal_of r)
refusal_of (refusal.Edit r) = run.of_edit (edit_refusal_of r)
refusal_of (refusal.Show r) = run.of_show (show_refusal_of r)
refusal_of refusal.KeeperFault = run.keeper_fault
refusal_of refusal.NoMemory = run.no_memory

-- a model with the number of a version
abbrev pub pair_of : ModelVersion → Name × ℕ
pair_of m = (m.model.items, m.version)

-- a reply
abbrev pub reply_of : Reply → run.Reply
reply_of (reply.Created m) = run.created m.model.items m.version
reply_of (reply.Edited m) = run.edited m.model.items m.version
reply_of (reply.Shown m text) = run.shown m.model.items m.version text.items
reply_of (reply.Listed ms) = run.listed (map pair_of ms.items)
reply_of (reply.Refused r) = run.refused (refusal_of r)
