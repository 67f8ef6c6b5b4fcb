-- What the parts of a change answer is a step of the desk.
use Rattle.std.proofs.Common.{◌≡◌, ◌≢◌, ◌⊎◌, ℕ, List, [], ◌∷◌, ◌++◌, Option, None, Some, Result, Ok, Err, refl, sym, ap, subst, ◌∙◌, inl, inr}
use Rattle.std.specs.List.{AllByRecursion}
use Rattle.theory_meaning.specs.Edit as meaning
use Rattle.theory_meaning.specs.Edit.{edited as edited_lines}
use Rattle.theory_meaning.specs.Point.{Name}
use Rattle.theory_meaning.specs.Text.{Numbered, Op}
use Rattle.theory_grammar.specs.RoundTrip.{NothingDivides, NothingDividesInEdit}
use Rattle.theory_grammar.specs.Texts.{SpellsLines, SpellsOps}
use Rattle.theory_session.specs.Accepted.{IsNext, by_creation, by_edit, edit_of}
use Rattle.theory_session.specs.Creation as creation
use Rattle.theory_session.specs.Creation.{CreateRequest, CreateRefusal, first_entry, judge_create}
use Rattle.theory_session.specs.Editing as editing
use Rattle.theory_session.specs.Editing.{EditRequest, judge_early, judge_late, next_entry, last_lines}
use Rattle.theory_session.specs.Judged as judged
use Rattle.theory_session.specs.Judged.{addition, repetition, refusal}
use Rattle.theory_session.specs.Lookup.{last_version}
use Rattle.theory_session.specs.Reading.{Read, spelled, faulty, IsTextRead, IsFormat}
use Rattle.theory_session.specs.Row.{Entry, IsRequestId, present_format}
use Rattle.theory_session.specs.Run as run
use Rattle.theory_session.specs.Run.{Reply, Refusal, created, edited, of_creation, of_edit, refused}
use Rattle.theory_session.specs.Step.{Changes, OrNoMemory, Creates, Edits, EditsBy, IsAdded}
use Rattle.theory_session.proofs.JudgedLaws.{create_adds, EditAdds, change_adds, undecided}
use Rattle.theory_model.specs.Checked as model
use Rattle.theory_model.specs.declared.changing.EditFault.TheVariants as change
use Rattle.theory_text.specs.Answers as text
use Rattle.theory_versions.specs.declared.created.Created.{Created}
use Rattle.theory_versions.specs.declared.created.CreateFault.{CreateFault}
use Rattle.theory_versions.specs.declared.created.CreateFault.TheVariants as fault
use Rattle.theory_versions.specs.declared.edited.Edited.{Edited}
use Rattle.theory_versions.specs.declared.edited.EditRefusal.{EditRefusal}
use Rattle.theory_versions.specs.declared.edited.EditRefusal.TheVariants as edit
use Rattle.theory_versions.specs.declared.judged.Judged.{Judged}
use Rattle.theory_versions.specs.declared.judged.Judged.TheVariants.{Repetition, Addition}
use Rattle.theory_versions.specs.declared.judged.Made.{Made}
use Rattle.theory_versions.specs.declared.entry.Entry as source
use Rattle.theory_versions.specs.Entries.{entry_of}
use Rattle.theory_versions.specs.Judging.{FirstComesTo, IsFirstJudged, LateComesTo, EarlyComesTo, IsEditJudged}
use Rattle.theory_versions.specs.Kept.{AddsOr}
use Rattle.theory_versions.specs.Made.{IsMadeOf}
use Rattle.theory_versions.specs.Replies.{create_reply, edit_reply}

-- a creation whose checks came to this
first_step : (es es' : List Entry) (r : CreateRequest) (j : judged.Judged CreateRefusal) (reply : Reply) → FirstComesTo es present_format r j
    → Changes of_creation created es j reply es' → (read : Read (List Numbered)) × IsTextRead r.body read
    × Changes of_creation created es (judge_create es present_format r read) reply es'
first_step es es' r j reply first changes =
    (spelled first.lines, first.read, subst (λ (k : judged.Judged CreateRefusal). Changes of_creation created es k reply es') (sym first.judged) changes)

-- one that is refused
pub first_refused : (es : List Entry) (r : CreateRequest) (f : CreateFault) → IsFirstJudged es present_format r (Err f)
    → Creates es r (create_reply (Err f)) es
first_refused es r (fault.Text e) h = (faulty (text.fault_of e), h, (refl, refl))
first_refused es r (fault.Model f) h = first_step es es r _ _ h (refl, refl)
first_refused es r (fault.IdReused v) h = first_step es es r _ _ h (refl, refl)
first_refused es r fault.NameTaken h = first_step es es r _ _ h (refl, refl)
first_refused es r fault.ModelsFull h = first_step es es r _ _ h (refl, refl)
first_refused es r fault.TextFull h = first_step es es r _ _ h (refl, refl)
first_refused es r fault.KeeperFault h = absurd h
first_refused es r fault.Memory h = refl

made_reply : (accepted : Name → ℕ → Reply) (old : Entry) (m : Made) → IsMadeOf old m → accepted m.model m.version ≡ accepted old.row.model old.row.version
made_reply accepted old m is =
    ap (λ (n : Name). accepted n m.version) is.model ∙ ap (λ (v : ℕ). accepted old.row.model v) is.version

-- one that is repeated
pub first_repeated : (es : List Entry) (r : CreateRequest) (m : Made) (c : Created) → c.model ≡ m.model → c.version ≡ m.version
    → IsFirstJudged es present_format r (Ok (Repetition m)) → Creates es r (create_reply (Ok c)) es
first_repeated es r m c model_is version_is h =
    first_step es es r (repetition h.0) _ h.1
    (ap (λ (n : Name). created n c.version) model_is ∙ ap (λ (v : ℕ). created m.model v) version_is ∙ made_reply created h.0 m h.2, refl)

-- a weaker step
or_no_memory : {P Q : Type 0} (es es' : List Entry) (reply : Reply) → (P → Q) → OrNoMemory es reply es' P → OrNoMemory es reply es' Q
or_no_memory es es' (created m v) f h = f h
or_no_memory es es' (edited m v) f h = f h
or_no_memory es es' (run.answered a) f h = f h
or_no_memory es es' (run.shown m v t) f h = f h
or_no_memory es es' (run.listed ms) f h = f h
or_no_memory es es' (run.derived ds) f h = f h
or_no_memory es es' (refused (of_creation r)) f h = f h
or_no_memory es es' (refused (of_edit r)) f h = f h
or_no_memory es es' (refused (run.of_question r)) f h = f h
or_no_memory es es' (refused (run.of_show r)) f h = f h
or_no_memory es es' (refused run.keeper_fault) f h = f h
or_no_memory es es' (refused run.no_memory) f h = h

-- one that is added
pub first_added : (es es' : List Entry) (r : CreateRequest) (e : source.Entry) (reply : Reply) → FirstComesTo es present_format r (addition (entry_of e))
    → AddsOr created es (entry_of e) reply es' → Creates es r reply es'
first_added es es' r e reply first adds =
    or_no_memory es es' reply (λ added. first_step es es' r (addition (entry_of e)) reply first added) adds

-- the version that a creation whose body is of this format adds is accepted next
pub creation_next : (es : List Entry) (format : ℕ) (r : CreateRequest) (lines : List Numbered) (e : Entry) → IsRequestId r.id → SpellsLines r.body lines
    → IsFormat format (AllByRecursion (λ (n : Numbered). NothingDivides n.line) lines) → judge_create es format r (spelled lines) ≡ addition e → IsNext es e
creation_next es format r lines e id read written j =
    let first : first_entry format r lines ≡ e = (create_adds es format r lines e j).first in
    subst (IsNext es) first (by_creation lines id (record { spelled = read; written = written }) (j ∙ ap addition (sym first)))

pub first_next : (es : List Entry) (r : CreateRequest) (e : Entry) → IsRequestId r.id → FirstComesTo es present_format r (addition e) → IsNext es e
first_next es r e id first = creation_next es present_format r first.lines e id first.read (inr refl) first.judged

-- an edit whose late checks came to this
late_step : (es es' : List Entry) (r : EditRequest) (j : judged.Judged editing.EditRefusal) (reply : Reply) → judge_early es r ≡ None
    → LateComesTo es present_format r j → Changes of_edit edited es j reply es' → EditsBy es r (judge_early es r) reply es'
late_step es es' r j reply early late changes =
    subst (λ (o : Option (judged.Judged editing.EditRefusal)). EditsBy es r o reply es') (sym early)
    (spelled late.ops, late.read, subst (λ (k : judged.Judged editing.EditRefusal). Changes of_edit edited es k reply es') (sym late.judged) changes)

-- one that was decided early
early_step : (es es' : List Entry) (r : EditRequest) (j : judged.Judged editing.EditRefusal) (reply : Reply) → EarlyComesTo es r j
    → Changes of_edit edited es j reply es' → EditsBy es r (judge_early es r) reply es'
early_step es es' r j reply early changes =
    subst (λ (o : Option (judged.Judged editing.EditRefusal)). EditsBy es r o reply es') (sym early) changes

-- one that is refused
pub edit_refused : (es : List Entry) (r : EditRequest) (f : EditRefusal) → IsEditJudged es present_format r (Err f) → Edits es r (edit_reply (Err f)) es
edit_refused es r edit.UnknownModel h = early_step es es r _ _ h (refl, refl)
edit_refused es r (edit.IdReused v) h = early_step es es r _ _ h (refl, refl)
edit_refused es r (edit.Stale v) h = early_step es es r _ _ h (refl, refl)
edit_refused es r (edit.Text e) h =
    subst (λ (o : Option (judged.Judged editing.EditRefusal)). EditsBy es r o (edit_reply (Err (edit.Text e))) es) (sym h.0) (faulty (text.fault_of e), h.1, (refl, refl))
edit_refused es r (edit.Edit (change.UnknownKey n)) h =
    late_step es es r _ _ h.0 h.1.2 (ap (λ (g : meaning.EditFault). refused (of_edit (editing.edit g))) (sym h.1.1), refl)
edit_refused es r (edit.Edit (change.ModelLine n)) h =
    late_step es es r _ _ h.0 h.1.2 (ap (λ (g : meaning.EditFault). refused (of_edit (editing.edit g))) (sym h.1.1), refl)
edit_refused es r (edit.Edit (change.After f)) h =
    late_step es es r _ _ h.0 h.1.2 (ap (λ (g : meaning.EditFault). refused (of_edit (editing.edit g))) (sym h.1.1), refl)
edit_refused es r (edit.Edit change.Memory) h = absurd h.1.1
edit_refused es r edit.VersionsFull h = late_step es es r _ _ h.0 h.1 (refl, refl)
edit_refused es r edit.TextFull h = late_step es es r _ _ h.0 h.1 (refl, refl)
edit_refused es r edit.KeeperFault h = absurd h.1
edit_refused es r edit.Memory h = refl

-- one that is repeated
pub edit_repeated : (es : List Entry) (r : EditRequest) (m : Made) (c : Edited) → c.model ≡ m.model → c.version ≡ m.version
    → IsEditJudged es present_format r (Ok (Repetition m)) → Edits es r (edit_reply (Ok c)) es
edit_repeated es r m c model_is version_is h =
    early_step es es r (repetition h.0) _ h.1
    (ap (λ (n : Name). edited n c.version) model_is ∙ ap (λ (v : ℕ). edited m.model v) version_is ∙ made_reply edited h.0 m h.2, refl)

-- one that is added
pub edit_added : (es es' : List Entry) (r : EditRequest) (e : source.Entry) (reply : Reply) → judge_early es r ≡ None
    → LateComesTo es present_format r (addition (entry_of e)) → AddsOr edited es (entry_of e) reply es' → Edits es r reply es'
edit_added es es' r e reply early late adds =
    or_no_memory es es' reply (λ added. late_step es es' r (addition (entry_of e)) reply early late added) adds

-- the version that an edit whose body is of this format adds is accepted next
pub edit_next : (es : List Entry) (format : ℕ) (r : EditRequest) (ops : List Op) (e : Entry) → IsRequestId r.id → SpellsOps r.body ops
    → IsFormat format (AllByRecursion NothingDividesInEdit ops) → judge_early es r ≡ None → judge_late es format r (spelled ops) ≡ addition e → IsNext es e
edit_next es format r ops e id read written early j =
    subst (IsNext es) adds.next (by_edit ops id (record { spelled = read; written = written }) (ap (judge_early es) (sym same) ∙ early)
    (ap (λ (q : EditRequest). judge_late es format q (spelled ops)) (sym same) ∙ j ∙ ap addition (sym adds.next)))
  where
    adds : EditAdds es format r e
    adds = change_adds es format r (edited_lines ops (last_lines r.model es)) e j

    same : r ≡ edit_of (next_entry format r (last_version r.model es) adds.lines).row
    same = ap (λ (n : ℕ). record r { base = n }) (undecided es r early).latest

pub late_next : (es : List Entry) (r : EditRequest) (e : Entry) → IsRequestId r.id → judge_early es r ≡ None → LateComesTo es present_format r (addition e)
    → IsNext es e
late_next es r e id early late = edit_next es present_format r late.ops e id late.read (inr refl) early late.judged
