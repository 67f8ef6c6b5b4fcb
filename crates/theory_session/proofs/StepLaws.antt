-- Steps and what they add.
use Rattle.std.proofs.Common.{◌≡◌, ◌⊎◌, inl, inr, ⊎_elim, ℕ, List, [], ◌∷◌, ◌++◌, Option, None, Some, refl, sym, ap, subst, ◌∙◌, append_assoc, append-nil}
use Rattle.std.specs.List.{AllByRecursion}
use Rattle.theory_meaning.specs.Deciding.{Meanings}
use Rattle.theory_meaning.specs.Point.{Name}
use Rattle.theory_meaning.specs.Text.{Numbered, Op}
use Rattle.theory_session.specs.Accepted.{edit_of, IsNext, by_creation, by_edit, AreAcceptedAfter, AreAccepted}
use Rattle.theory_session.specs.Creation.{CreateRequest, first_entry, judge_create}
use Rattle.theory_session.specs.DeskLaws.{HasRequestId, IsSameOrNext}
use Rattle.theory_session.specs.Editing.{EditRequest, EditRefusal, next_entry, judge_early, judge_late, last_lines}
use Rattle.theory_meaning.specs.Edit.{edited as edited_lines}
use Rattle.theory_session.specs.Judged.{Judged, refusal, repetition, addition}
use Rattle.theory_session.specs.Lookup.{last_version}
use Rattle.theory_session.specs.Reading.{Read, spelled, faulty, IsTextRead, IsEditRead}
use Rattle.theory_session.specs.Row.{Entry, IsRequestId, present_format}
use Rattle.theory_session.specs.Run.{Refusal, of_creation, of_edit, of_question, of_show, keeper_fault, no_memory, Reply, created, edited, answered, shown, listed, refused, derived}
use Rattle.theory_session.specs.Step.{Command, create, edit, ask, show, list, Changes, OrNoMemory, Creates, EditsBy, Step}
use Rattle.theory_session.specs.Steps.{Run}
use Rattle.theory_session.proofs.JudgedLaws.{create_adds, EditAdds, change_adds, undecided, early_adds}

-- memory is wanting, or the step is made
pub memory_or : {X : Type 0} (es es' : List Entry) (reply : Reply) → OrNoMemory es reply es' X → ((reply ≡ refused no_memory) × (es' ≡ es)) ⊎ X
memory_or es es' (created m v) h = inr h
memory_or es es' (edited m v) h = inr h
memory_or es es' (answered a) h = inr h
memory_or es es' (shown m v t) h = inr h
memory_or es es' (listed ms) h = inr h
memory_or es es' (derived ds) h = inr h
memory_or es es' (refused (of_creation r)) h = inr h
memory_or es es' (refused (of_edit r)) h = inr h
memory_or es es' (refused (of_question r)) h = inr h
memory_or es es' (refused (of_show r)) h = inr h
memory_or es es' (refused keeper_fault) h = inr h
memory_or es es' (refused no_memory) h = inl (refl, h)

-- a step that is made, where memory isn't wanting
pub unless_memory : {X : Type 0} (es es' : List Entry) (reply : Reply) → ¬ (reply ≡ refused no_memory) → X → OrNoMemory es reply es' X
unless_memory es es' (created m v) enough h = h
unless_memory es es' (edited m v) enough h = h
unless_memory es es' (answered a) enough h = h
unless_memory es es' (shown m v t) enough h = h
unless_memory es es' (listed ms) enough h = h
unless_memory es es' (derived ds) enough h = h
unless_memory es es' (refused (of_creation r)) enough h = h
unless_memory es es' (refused (of_edit r)) enough h = h
unless_memory es es' (refused (of_question r)) enough h = h
unless_memory es es' (refused (of_show r)) enough h = h
unless_memory es es' (refused keeper_fault) enough h = h
unless_memory es es' (refused no_memory) enough h = absurd (enough refl)

-- what changes is added by the checks, or nothing is
changes_add : {R : Type 0} (because : R → Refusal) (accepted : Name → ℕ → Reply) (es : List Entry) (j : Judged R) (reply : Reply) (es' : List Entry)
    → Changes because accepted es j reply es' → (es' ≡ es) ⊎ ((e : Entry) × (j ≡ addition e) × (es' ≡ es ++ e ∷ []))
changes_add because accepted es (refusal r) reply es' h = inl h.1
changes_add because accepted es (repetition e) reply es' h = inl h.1
changes_add because accepted es (addition e) reply es' (inl h) = inr (e, refl, h.1)
changes_add because accepted es (addition e) reply es' (inr h) = inl h.1

-- a creation that is added is accepted next
create_next : (es : List Entry) (r : CreateRequest) (read : Read (List Numbered)) (e : Entry) → IsRequestId r.id → IsTextRead r.body read
    → judge_create es present_format r read ≡ addition e → IsNext es e
create_next es r (faulty f) e id is j = absurd cc
create_next es r (spelled lines) e id is j =
    let first : first_entry present_format r lines ≡ e = (create_adds es present_format r lines e j).first in
    subst (IsNext es) first
    (by_creation lines id (record { spelled = is; written = inr refl }) (j ∙ ap addition (sym first)))

-- so is an edit
edit_next : (es : List Entry) (r : EditRequest) (read : Read (List Op)) (e : Entry) → IsRequestId r.id → IsEditRead r.body read
    → judge_early es r ≡ None → judge_late es present_format r read ≡ addition e → IsNext es e
edit_next es r (faulty f) e id is early j = absurd cc
edit_next es r (spelled ops) e id is early j =
    subst (IsNext es) adds.next (by_edit ops id (record { spelled = is; written = inr refl }) (ap (judge_early es) (sym same) ∙ early)
    (ap (λ (q : EditRequest). judge_late es present_format q (spelled ops)) (sym same) ∙ j ∙ ap addition (sym adds.next)))
  where
    adds : EditAdds es present_format r e
    adds = change_adds es present_format r (edited_lines ops (last_lines r.model es)) e j

    same : r ≡ edit_of (next_entry present_format r (last_version r.model es) adds.lines).row
    same = ap (λ (n : ℕ). record r { base = n }) (undecided es r early).latest

creates_grow : (es : List Entry) (r : CreateRequest) (reply : Reply) (es' : List Entry) → IsRequestId r.id → Creates es r reply es' → IsSameOrNext es es'
creates_grow es r reply es' id h = by_memory (memory_or es es' reply h)
  where
    by_read : (read : Read (List Numbered)) → IsTextRead r.body read
        → (es' ≡ es) ⊎ ((e : Entry) × (judge_create es present_format r read ≡ addition e) × (es' ≡ es ++ e ∷ [])) → IsSameOrNext es es'
    by_read read is (inl same) = inl same
    by_read read is (inr k) = inr (k.0, create_next es r read k.0 id is k.1, k.2)

    by_memory : ((reply ≡ refused no_memory) × (es' ≡ es)) ⊎ ((read : Read (List Numbered)) × IsTextRead r.body read
        × Changes of_creation created es (judge_create es present_format r read) reply es') → IsSameOrNext es es'
    by_memory (inl k) = inl k.1
    by_memory (inr k) = by_read k.0 k.1 (changes_add of_creation created es (judge_create es present_format r k.0) reply es' k.2)

edits_grow : (es : List Entry) (r : EditRequest) (reply : Reply) (es' : List Entry) → IsRequestId r.id → OrNoMemory es reply es' (EditsBy es r (judge_early es r) reply es')
    → IsSameOrNext es es'
edits_grow es r reply es' id h = by_memory (memory_or es es' reply h)
  where
    by_read : judge_early es r ≡ None → (read : Read (List Op)) → IsEditRead r.body read
        → (es' ≡ es) ⊎ ((e : Entry) × (judge_late es present_format r read ≡ addition e) × (es' ≡ es ++ e ∷ [])) → IsSameOrNext es es'
    by_read early read is (inl same) = inl same
    by_read early read is (inr k) = inr (k.0, edit_next es r read k.0 id is early k.1, k.2)

    by_judged : (j : Judged EditRefusal) → judge_early es r ≡ Some j → (es' ≡ es) ⊎ ((e : Entry) × (j ≡ addition e) × (es' ≡ es ++ e ∷ [])) → IsSameOrNext es es'
    by_judged j early (inl same) = inl same
    by_judged j early (inr k) = absurd (early_adds es r k.0 (early ∙ ap Some k.1))

    by_early : (o : Option (Judged EditRefusal)) → judge_early es r ≡ o → EditsBy es r o reply es' → IsSameOrNext es es'
    by_early (Some j) early k = by_judged j early (changes_add of_edit edited es j reply es' k)
    by_early None early k = by_read early k.0 k.1 (changes_add of_edit edited es (judge_late es present_format r k.0) reply es' k.2)

    by_memory : ((reply ≡ refused no_memory) × (es' ≡ es)) ⊎ EditsBy es r (judge_early es r) reply es' → IsSameOrNext es es'
    by_memory (inl k) = inl k.1
    by_memory (inr k) = by_early (judge_early es r) refl k

-- a step that only tells adds nothing
pub tells_nothing : (X : Type 0) (es es' : List Entry) (reply : Reply) → OrNoMemory es reply es' (X × (es' ≡ es)) → es' ≡ es
tells_nothing X es es' reply h = ⊎_elim (λ k. k.1) (λ k. k.1) (memory_or es es' reply h)

-- a refusal adds nothing
refused_changes : {R : Type 0} (because : R → Refusal) (accepted : Name → ℕ → Reply) → ((n : Name) (v : ℕ) (why : Refusal) → ¬ (refused why ≡ accepted n v))
    → (es : List Entry) (j : Judged R) (why : Refusal) (es' : List Entry) → Changes because accepted es j (refused why) es' → es' ≡ es
refused_changes because accepted no_refusal es (refusal r) why es' h = h.1
refused_changes because accepted no_refusal es (repetition e) why es' h = h.1
refused_changes because accepted no_refusal es (addition e) why es' (inl h) = absurd (no_refusal e.row.model e.row.version why h.0)
refused_changes because accepted no_refusal es (addition e) why es' (inr h) = h.1

not_created : (n : Name) (v : ℕ) (why : Refusal) → ¬ (refused why ≡ created n v)
not_created n v why h = cc

not_edited : (n : Name) (v : ℕ) (why : Refusal) → ¬ (refused why ≡ edited n v)
not_edited n v why h = cc

refused_edits : (es es' : List Entry) (r : EditRequest) (why : Refusal) (o : Option (Judged EditRefusal)) → EditsBy es r o (refused why) es' → es' ≡ es
refused_edits es es' r why (Some j) h = refused_changes of_edit edited not_edited es j why es' h
refused_edits es es' r why None h = refused_changes of_edit edited not_edited es (judge_late es present_format r h.0) why es' h.2

pub refusal_adds_nothing : (m : Meanings) (es es' : List Entry) (command : Command) (why : Refusal) → Step m es command (refused why) es' → es' ≡ es
refusal_adds_nothing m es es' (create r) why h =
    ⊎_elim (λ k. k.1) (λ k. refused_changes of_creation created not_created es (judge_create es present_format r k.0) why es' k.2)
    (memory_or es es' (refused why) h)
refusal_adds_nothing m es es' (edit r) why h =
    ⊎_elim (λ k. k.1) (λ k. refused_edits es es' r why (judge_early es r) k) (memory_or es es' (refused why) h)
refusal_adds_nothing m es es' (ask r) why h = tells_nothing _ es es' (refused why) h
refusal_adds_nothing m es es' (show model version) why h = tells_nothing _ es es' (refused why) h
refusal_adds_nothing m es es' list why h = tells_nothing _ es es' (refused why) h

pub step_grows : (m : Meanings) (es es' : List Entry) (command : Command) (reply : Reply) → HasRequestId command → Step m es command reply es' → IsSameOrNext es es'
step_grows m es es' (create r) reply id h = creates_grow es r reply es' id h
step_grows m es es' (edit r) reply id h = edits_grow es r reply es' id h
step_grows m es es' (ask r) reply id h = inl (tells_nothing _ es es' reply h)
step_grows m es es' (show model version) reply id h = inl (tells_nothing _ es es' reply h)
step_grows m es es' list reply id h = inl (tells_nothing _ es es' reply h)

-- what is accepted next is accepted behind what is accepted
pub accepted_more : (before es : List Entry) (e : Entry) → AreAcceptedAfter before es → IsNext (before ++ es) e → AreAcceptedAfter before (es ++ e ∷ [])
accepted_more before [] e h next = (subst (λ (fs : List Entry). IsNext fs e) (append-nil before) next, tt)
accepted_more before (f ∷ es) e h next =
    (h.0, accepted_more (before ++ f ∷ []) es e h.1 (subst (λ (fs : List Entry). IsNext fs e) (sym (append_assoc before (f ∷ []) es)) next))

grown : (es es' : List Entry) → AreAccepted es → IsSameOrNext es es' → AreAccepted es' × ((more : List Entry) × (es' ≡ es ++ more))
grown es es' is (inl same) = (subst AreAccepted (sym same) is, ([], same ∙ sym (append-nil es)))
grown es es' is (inr k) = (subst AreAccepted (sym k.2) (accepted_more [] es k.0 is k.1), (k.0 ∷ [], k.2))

pub run_keeps : (m : Meanings) (es es' : List Entry) (commands : List Command) (replies : List Reply) → AllByRecursion HasRequestId commands
    → AreAccepted es → Run m es commands replies es' → AreAccepted es' × ((more : List Entry) × (es' ≡ es ++ more))
run_keeps m es es' [] [] ids is h = (subst AreAccepted (sym h) is, ([], h ∙ sym (append-nil es)))
run_keeps m es es' [] (r ∷ rs) ids is h = absurd h
run_keeps m es es' (c ∷ cs) [] ids is h = absurd h
run_keeps m es es' (c ∷ cs) (r ∷ rs) ids is h =
    let first = grown es h.0 is (step_grows m es h.0 c r ids.0 h.1) in
    let rest = run_keeps m h.0 es' cs rs ids.1 first.0 h.2 in
    let all : es' ≡ es ++ (first.1.0 ++ rest.1.0) = rest.1.1 ∙ ap (λ (fs : List Entry). fs ++ rest.1.0) first.1.1 ∙ append_assoc es first.1.0 rest.1.0 in
    (rest.0, (first.1.0 ++ rest.1.0, all))
