-- What the slow program's checks come to, put together.
use Rattle.std.proofs.Common.{◌≡◌, ◌≢◌, ℕ, ◌==◌, Bool, true, false, cond, nat_le, nat_lt, ◌+◌, List, Option, None, Some, Result, Ok, Err, refl, sym, ap, subst, ◌∙◌}
use Rattle.std.proofs.lemmas.Bool.{eqb-true}
use Rattle.theory_meaning.specs.Edit.{EditFault, edited as plain_edited}
use Rattle.theory_meaning.specs.ModelFault.{model_fault}
use Rattle.theory_meaning.specs.Text.{Numbered}
use Rattle.theory_grammar.specs.TextFault.{Fault}
use Rattle.theory_session.specs.Accepted.{creation_of}
use Rattle.theory_session.specs.Creation as creation
use Rattle.theory_session.specs.Creation.{CreateRequest, first_entry, judge_create}
use Rattle.theory_session.specs.Editing as editing
use Rattle.theory_session.specs.Editing.{EditRequest, next_entry, with_id, lines_in, last_lines, judge_base, judge_early, judge_next, judge_change, judge_late}
use Rattle.theory_session.specs.Judged.{Judged, refusal, addition}
use Rattle.theory_session.specs.Lookup.{versions_of, last_version, version_at}
use Rattle.theory_session.specs.Reading.{spelled, faulty, IsTextRead, IsEditRead}
use Rattle.theory_session.specs.Row.{Entry, present_format}
use Rattle.theory_session.specs.Run.{of_creation, of_edit, of_question, of_show, keeper_fault, no_memory, Reply, created, edited, answered, shown, listed, refused, derived}
use Rattle.theory_session.specs.Sizes.{size_of, size_in, most_versions, most_bytes}
use Rattle.theory_session.specs.SlowDesk.{entry_of, reply_of}
use Rattle.theory_session.specs.SlowSteps.{ComesTo, IsFirst, JudgesCreation, JudgesEdit}
use Rattle.theory_session.specs.SlowTexts.{ChangesTo}
use Rattle.theory_session.specs.Step.{Changes, OrNoMemory, Creates, EditsBy, Edits}
use Rattle.theory_session.specs.declared.slow.replies.Reply as slow
use Rattle.theory_session.specs.declared.slow.versions.Version.{Version}
use Rattle.theory_session.proofs.StepLaws.{unless_memory}

-- what follows from a step follows unless memory is wanting
and_so : {X Y : Type 0} (es es' : List Entry) (reply : Reply) → (X → Y) → OrNoMemory es reply es' X → OrNoMemory es reply es' Y
and_so es es' (created m v) f h = f h
and_so es es' (edited m v) f h = f h
and_so es es' (answered a) f h = f h
and_so es es' (shown m v t) f h = f h
and_so es es' (listed ms) f h = f h
and_so es es' (derived ds) f h = f h
and_so es es' (refused (of_creation r)) f h = f h
and_so es es' (refused (of_edit r)) f h = f h
and_so es es' (refused (of_question r)) f h = f h
and_so es es' (refused (of_show r)) f h = f h
and_so es es' (refused keeper_fault) f h = f h
and_so es es' (refused no_memory) f h = h

-- a refusal by checks isn't want of memory
by_creation : (why : creation.CreateRefusal) (reply : Reply) → reply ≡ refused (of_creation why) → ¬ (reply ≡ refused no_memory)
by_creation why reply same wanting = cc

by_edit : (why : editing.EditRefusal) (reply : Reply) → reply ≡ refused (of_edit why) → ¬ (reply ≡ refused no_memory)
by_edit why reply same wanting = cc

-- a creation of bytes that are no text
pub faulty_creation : (r : CreateRequest) (f : Fault) (reply : Reply) → IsTextRead r.body (faulty f) → reply ≡ refused (of_creation (creation.text f))
    → (es : List Entry) → Creates es r reply es
faulty_creation r f reply is same es = unless_memory es es reply (by_creation _ reply same) (faulty f, is, (same, refl))

-- an edit of bytes that are no operations
pub faulty_edit : (r : EditRequest) (f : Fault) (reply : Reply) → IsEditRead r.body (faulty f) → reply ≡ refused (of_edit (editing.text f))
    → (es : List Entry) → OrNoMemory es reply es (EditsBy es r None reply es)
faulty_edit r f reply is same es = unless_memory es es reply (by_edit _ reply same) (faulty f, is, (same, refl))

-- an edit whose operations fail on the last lines
pub failed_edit : (r : EditRequest) (old : List Numbered) (f : EditFault) (reply : Reply) → ChangesTo r.body old (Err f) → reply ≡ refused (of_edit (editing.edit f))
    → (es : List Entry) → last_lines r.model es ≡ old → OrNoMemory es reply es (EditsBy es r None reply es)
failed_edit r old f reply to same es last =
    unless_memory es es reply (by_edit _ reply same) (spelled to.0, to.1, subst (λ (j : Judged editing.EditRefusal). Changes of_edit edited es j reply es) (sym late) (same, refl))
  where
    late : judge_late es present_format r (spelled to.0) ≡ refusal (editing.edit f)
    late = subst (λ (ls : List Numbered). judge_change es present_format r (plain_edited to.0 ls) ≡ refusal (editing.edit f)) (sym last)
        (ap (judge_change es present_format r) to.2)

-- the checks of version 1 are those of its creation
pub creation_comes : {T : Type 0} (lines : T → List Numbered) (es : List Entry) (r : CreateRequest) (v : Version T) (result : Result (Version T) slow.Reply)
    → IsFirst lines r (Ok v)
    → ComesTo lines of_creation created es (creation.judge_lines es (creation_of (entry_of lines v).row) (entry_of lines v) (model_fault (lines v.text))) result
    → JudgesCreation lines es r result
creation_comes lines es r v result first comes = by_result result comes
  where
    judged : Entry → Judged creation.CreateRefusal
    judged e = creation.judge_lines es (creation_of e.row) e (model_fault e.lines)

    same : judged (entry_of lines v) ≡ judge_create es present_format r (spelled (lines v.text))
    same = ap judged first.1

    by_result : (w : Result (Version _) slow.Reply) → ComesTo lines of_creation created es (judged (entry_of lines v)) w → JudgesCreation lines es r w
    by_result (Ok w) j = (spelled (lines v.text), first.0, sym same ∙ j)
    by_result (Err reply) h =
        and_so es es (reply_of reply)
        (λ k. (spelled (lines v.text), first.0, subst (λ (j : Judged creation.CreateRefusal). Changes of_creation created es j (reply_of reply) es) same k)) h

no_version_zero : (model : List ℕ) (last : ℕ) (es : List Entry) (e : Entry) → version_at model last es ≡ Some e → last ≢ 0
no_version_zero model last es e h = λ none. absurd (none_at_zero (subst (λ (n : ℕ). version_at model n es ≡ Some e) none h))
  where
    none_at_zero : None ≡ Some e → ⊥
    none_at_zero k = cc

-- an edit that the checks of its model, its id and its base leave undecided, and that leaves these lines
pub record IsUndecidedEdit (es : List Entry) (r : EditRequest) (ls : List Numbered) : Type 0 where
  pub early : judge_early es r ≡ None
  pub to : ChangesTo r.body (last_lines r.model es) (Ok ls)

pub undecided_edit : (es : List Entry) (r : EditRequest) (ls : List Numbered) (e : Entry) (last : ℕ) → last ≡ last_version r.model es
    → version_at r.model last es ≡ Some e → judge_base r last (with_id r.id (versions_of r.model es)) ≡ None → ChangesTo r.body e.lines (Ok ls)
    → IsUndecidedEdit es r ls
undecided_edit es r ls e last number latest base to =
    record { early = subst Decided number (by_test (last == 0) refl); to = subst (λ (old : List Numbered). ChangesTo r.body old (Ok ls)) (sym lines) to }
  where
    Decided : ℕ → Type 0
    Decided n = cond (n == 0) (Some (refusal editing.unknown_model)) (judge_base r n (with_id r.id (versions_of r.model es))) ≡ None

    by_test : (b : Bool) → (last == 0) ≡ b → cond b (Some (refusal editing.unknown_model)) (judge_base r last (with_id r.id (versions_of r.model es))) ≡ None
    by_test true is = absurd (no_version_zero r.model last es e latest (eqb-true last 0 is))
    by_test false is = base

    lines : last_lines r.model es ≡ e.lines
    lines = subst (λ (n : ℕ). lines_in (version_at r.model n es) ≡ e.lines) number (ap lines_in latest)

-- what is read of it
late_is : (es : List Entry) (r : EditRequest) (ls : List Numbered) (u : IsUndecidedEdit es r ls)
    → judge_late es present_format r (spelled u.to.0) ≡ judge_next es (next_entry present_format r (last_version r.model es) ls)
late_is es r ls u = ap (judge_change es present_format r) u.to.2

-- behind the check of its number
abbrev judge_room : List Entry → Entry → Judged editing.EditRefusal
judge_room es e = cond (nat_lt most_bytes (size_in es + size_of e)) (refusal editing.text_full) (addition e)

-- it is refused where the model has all its versions
pub full_edit : (es : List Entry) (r : EditRequest) (ls : List Numbered) (reply : Reply) → IsUndecidedEdit es r ls
    → nat_le most_versions (last_version r.model es) ≡ true → reply ≡ refused (of_edit editing.versions_full) → Edits es r reply es
full_edit es r ls reply u many same =
    unless_memory es es reply (by_edit _ reply same)
    (subst (λ (o : Option (Judged editing.EditRefusal)). EditsBy es r o reply es) (sym u.early)
    (spelled u.to.0, u.to.1, subst (λ (j : Judged editing.EditRefusal). Changes of_edit edited es j reply es) (sym (late_is es r ls u ∙ full)) (same, refl)))
  where
    full : judge_next es (next_entry present_format r (last_version r.model es) ls) ≡ refusal editing.versions_full
    full = ap (λ (b : Bool). cond b (refusal editing.versions_full) (judge_room es (next_entry present_format r (last_version r.model es) ls))) many

-- the checks of its version are those of the edit
pub edit_comes : {T : Type 0} (lines : T → List Numbered) (es : List Entry) (r : EditRequest) (ls : List Numbered) (e : Entry)
    (result : Result (Version T) slow.Reply) → IsUndecidedEdit es r ls → e ≡ next_entry present_format r (last_version r.model es) ls
    → ComesTo lines of_edit edited es (judge_next es e) result → JudgesEdit lines es r result
edit_comes lines es r ls e result u next comes = by_result result comes
  where
    same : judge_next es e ≡ judge_late es present_format r (spelled u.to.0)
    same = ap (judge_next es) next ∙ sym (late_is es r ls u)

    by_result : (w : Result (Version _) slow.Reply) → ComesTo lines of_edit edited es (judge_next es e) w → JudgesEdit lines es r w
    by_result (Ok w) j = (u.early, (spelled u.to.0, u.to.1, sym same ∙ j))
    by_result (Err reply) h =
        and_so es es (reply_of reply)
        (λ k. subst (λ (o : Option (Judged editing.EditRefusal)). EditsBy es r o (reply_of reply) es) (sym u.early)
        (spelled u.to.0, u.to.1, subst (λ (j : Judged editing.EditRefusal). Changes of_edit edited es j (reply_of reply) es) same k)) h
