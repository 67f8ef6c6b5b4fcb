-- The desk as a machine: commands, and the step of each.
use Rattle.std.specs.Prelude.{◌≡◌, ◌⊎◌, ℕ, List, [], ◌∷◌, ◌++◌, Option, None, Some, Result, Ok, Err}
use Rattle.theory_meaning.specs.Deciding.{Meanings}
use Rattle.theory_meaning.specs.Point.{Name}
use Rattle.theory_meaning.specs.Text.{Numbered, Op}
use Rattle.theory_session.specs.Answered.{IsAnswer}
use Rattle.theory_session.specs.Ask.{Answer, AskFault}
use Rattle.theory_session.specs.Asking.{AskRequest, question_about_version, judge_ask}
use Rattle.theory_session.specs.Creation.{CreateRequest, judge_create}
use Rattle.theory_session.specs.Editing.{EditRequest, EditRefusal, judge_early, judge_late}
use Rattle.theory_session.specs.Judged.{Judged, refusal, repetition, addition}
use Rattle.theory_session.specs.Lookup.{Found, unknown_model, unknown_version, found, find_version, listed_in}
use Rattle.theory_session.specs.Reading.{Read, IsTextRead, IsEditRead}
use Rattle.theory_session.specs.Row.{Entry, present_format}
use Rattle.theory_session.specs.Run.{Refusal, of_creation, of_edit, of_question, of_show, keeper_fault, no_memory, Reply, created, edited, answered, shown, listed, refused}
use Rattle.theory_session.specs.Showing.{no_model, no_version}
use Rattle.theory_session.specs.Sizes.{printed}

-- a command
pub data Command : Type 0 where
  create : CreateRequest → Command
  edit : EditRequest → Command
  ask : AskRequest → Command
  show : Name → Option ℕ → Command
  list : Command

-- the reply to a change that passes its checks and isn't a repetition: it adds a version, or the keeper fails and nothing is added
abbrev pub IsAdded : (Name → ℕ → Reply) → List Entry → Entry → Reply → List Entry → Type 0
IsAdded accepted es e reply es' =
    ((reply ≡ accepted e.row.model e.row.version) × (es' ≡ es ++ e ∷ [])) ⊎ ((reply ≡ refused keeper_fault) × (es' ≡ es))

-- the reply to a change whose checks came to this, and the versions after it
abbrev pub Changes : {R : Type 0} → (R → Refusal) → (Name → ℕ → Reply) → List Entry → Judged R → Reply → List Entry → Type 0
Changes because accepted es (refusal r) reply es' = (reply ≡ refused (because r)) × (es' ≡ es)
Changes because accepted es (repetition e) reply es' = (reply ≡ accepted e.row.model e.row.version) × (es' ≡ es)
Changes because accepted es (addition e) reply es' = IsAdded accepted es e reply es'

-- want of memory may come in place of any reply, and adds nothing
abbrev pub OrNoMemory : List Entry → Reply → List Entry → Type 0 → Type 0
OrNoMemory es (refused no_memory) es' IsStep = es' ≡ es
OrNoMemory es _ es' IsStep = IsStep

-- the step of a creation
abbrev pub Creates : List Entry → CreateRequest → Reply → List Entry → Type 0
Creates es r reply es' = OrNoMemory es reply es'
    ((read : Read (List Numbered)) × IsTextRead r.body read × Changes of_creation created es (judge_create es present_format r read) reply es')

-- an edit whose checks before the body is read came to this
abbrev pub EditsBy : List Entry → EditRequest → Option (Judged EditRefusal) → Reply → List Entry → Type 0
EditsBy es r (Some judged) reply es' = Changes of_edit edited es judged reply es'
EditsBy es r None reply es' =
    (read : Read (List Op)) × IsEditRead r.body read × Changes of_edit edited es (judge_late es present_format r read) reply es'

-- the step of an edit
abbrev pub Edits : List Entry → EditRequest → Reply → List Entry → Type 0
Edits es r reply es' = OrNoMemory es reply es' (EditsBy es r (judge_early es r) reply es')

-- the reply to a question whose checks came to this
abbrev pub Answers : Meanings → AskRequest → Result Entry AskFault → Reply → Type 0
Answers m r (Err fault) reply = reply ≡ refused (of_question fault)
Answers m r (Ok e) reply = (a : Answer) × IsAnswer m e.lines (question_about_version r e) a × (reply ≡ answered a)

-- the step of a question
abbrev pub Asks : Meanings → List Entry → AskRequest → Reply → List Entry → Type 0
Asks m es r reply es' = OrNoMemory es reply es' (Answers m r (judge_ask r (find_version r.model r.version es)) reply × (es' ≡ es))

-- the reply that shows what was found
abbrev pub showing : Found → Reply
showing unknown_model = refused (of_show no_model)
showing (unknown_version last) = refused (of_show (no_version last))
showing (found e) = shown e.row.model e.row.version (printed e)

-- the step of a command that only tells: this reply, and nothing is added
abbrev pub Tells : List Entry → Reply → Reply → List Entry → Type 0
Tells es told reply es' = OrNoMemory es reply es' ((reply ≡ told) × (es' ≡ es))

-- one step of the desk with these versions: a command, its reply, and the versions after it
abbrev pub Step : Meanings → List Entry → Command → Reply → List Entry → Type 0
Step m es (create r) reply es' = Creates es r reply es'
Step m es (edit r) reply es' = Edits es r reply es'
Step m es (ask r) reply es' = Asks m es r reply es'
Step m es (show model version) reply es' = Tells es (showing (find_version model version es)) reply es'
Step m es list reply es' = Tells es (listed (listed_in es)) reply es'
