-- What the slow program's checks come to: a version that would be added, or a reply that adds nothing.
use Rattle.std.specs.Prelude.{◌≡◌, ℕ, List, Option, None, Result, Ok, Err}
use Rattle.theory_meaning.specs.Point.{Name}
use Rattle.theory_meaning.specs.Text.{Numbered, Op}
use Rattle.theory_session.specs.Creation.{CreateRequest, first_entry, judge_create}
use Rattle.theory_session.specs.Editing.{EditRequest, EditRefusal, judge_early, judge_late, last_lines}
use Rattle.theory_session.specs.Judged.{Judged, addition}
use Rattle.theory_session.specs.Reading.{Read, spelled, IsTextRead, IsEditRead}
use Rattle.theory_session.specs.Row.{Entry, present_format}
use Rattle.theory_session.specs.Run.{Refusal, keeper_fault, Reply, created, edited, refused}
use Rattle.theory_session.specs.SlowDesk.{entry_of, reply_of}
use Rattle.theory_session.specs.SlowTexts.{ChangesTo}
use Rattle.theory_session.specs.Step.{IsAdded, Changes, OrNoMemory, Creates, EditsBy, Edits}
use Rattle.theory_session.specs.declared.slow.replies.Reply as slow
use Rattle.theory_session.specs.declared.slow.adding.Change.{Change}
use Rattle.theory_session.specs.declared.slow.adding.Change.TheVariants as change
use Rattle.theory_session.specs.declared.slow.versions.Version.{Version}

-- the reply to a change that is accepted
abbrev pub accepted_by : Change → Name → ℕ → Reply
accepted_by change.Creation = created
accepted_by change.Edit = edited

-- the reply doesn't say that a keeper failed
abbrev pub IsOwn : slow.Reply → Type 0
IsOwn reply = ¬ (reply_of reply ≡ refused keeper_fault)

-- the version is added, or the keeper fails; but memory may run out
abbrev pub Adds : Change → List Entry → Entry → Reply → List Entry → Type 0
Adds c es e reply es' = OrNoMemory es reply es' (IsAdded (accepted_by c) es e reply es')

-- checks that came to this give the version that is added, or the reply
abbrev pub ComesTo : {T R : Type 0} → (T → List Numbered) → (R → Refusal) → (Name → ℕ → Reply) → List Entry → Judged R
    → Result (Version T) slow.Reply → Type 0
ComesTo lines because accepted es j (Ok v) = j ≡ addition (entry_of lines v)
ComesTo lines because accepted es j (Err reply) = OrNoMemory es (reply_of reply) es (Changes because accepted es j (reply_of reply) es)

-- the version 1 of a creation whose body was read, or the reply where it wasn't
abbrev pub IsFirst : {T : Type 0} → (T → List Numbered) → CreateRequest → Result (Version T) slow.Reply → Type 0
IsFirst lines r (Ok v) = IsTextRead r.body (spelled (lines v.text)) × (entry_of lines v ≡ first_entry present_format r (lines v.text))
IsFirst lines r (Err reply) = (es : List Entry) → Creates es r (reply_of reply) es

-- the checks of a creation give the version that is added, or the reply
abbrev pub JudgesCreation : {T : Type 0} → (T → List Numbered) → List Entry → CreateRequest → Result (Version T) slow.Reply → Type 0
JudgesCreation lines es r (Ok v) =
    (read : Read (List Numbered)) × IsTextRead r.body read × (judge_create es present_format r read ≡ addition (entry_of lines v))
JudgesCreation lines es r (Err reply) = Creates es r (reply_of reply) es

-- early checks that came to this leave an edit undecided, or give the reply
abbrev pub Decides : {T : Type 0} → List Entry → EditRequest → Option (Judged EditRefusal) → Result T slow.Reply → Type 0
Decides es r early (Ok _) = early ≡ None
Decides es r early (Err reply) = OrNoMemory es (reply_of reply) es (EditsBy es r early (reply_of reply) es)

-- the text that an undecided edit makes of these lines, or the reply wherever they are the last of the model
abbrev pub IsChanged : {T : Type 0} → (T → List Numbered) → EditRequest → List Numbered → Result T slow.Reply → Type 0
IsChanged lines r old (Ok text) = ChangesTo r.body old (Ok (lines text))
IsChanged {T = T} lines r old (Err reply) = (es : List Entry) → last_lines r.model es ≡ old → Decides {T = T} es r None (Err reply)

-- the checks of an edit give the version that is added, or the reply
abbrev pub JudgesEdit : {T : Type 0} → (T → List Numbered) → List Entry → EditRequest → Result (Version T) slow.Reply → Type 0
JudgesEdit lines es r (Ok v) =
    (judge_early es r ≡ None) × ((read : Read (List Op)) × IsEditRead r.body read × (judge_late es present_format r read ≡ addition (entry_of lines v)))
JudgesEdit lines es r (Err reply) = Edits es r (reply_of reply) es
