-- What the steps of a desk do, whatever its decider may answer.
use Rattle.std.specs.Prelude.{◌≡◌, ◌⊎◌, ℕ, List, [], ◌∷◌, ◌++◌, Err}
use Rattle.std.specs.List.{AllByRecursion}
use Rattle.theory_meaning.specs.Deciding.{Meanings}
use Rattle.theory_session.specs.Accepted.{IsNext, AreAccepted, IsDeskOf, IsFirstBadRow}
use Rattle.theory_session.specs.Ask.{AskFault}
use Rattle.theory_session.specs.Asking.{AskRequest, judge_ask}
use Rattle.theory_session.specs.Lookup.{find_version}
use Rattle.theory_session.specs.Row.{Row, Entry, IsRequestId}
use Rattle.theory_session.specs.Run.{Reply, created, edited, refused, Refusal, of_question, keeper_fault, no_memory}
use Rattle.theory_session.specs.Step.{Command, create, edit, ask, Step}
use Rattle.theory_session.specs.Steps.{Run}

-- the id of a change has its form
abbrev pub HasRequestId : Command → Type 0
HasRequestId (create r) = IsRequestId r.id
HasRequestId (edit r) = IsRequestId r.id
HasRequestId _ = Unit {0}

-- the versions are the same, or one more that is accepted next
abbrev pub IsSameOrNext : List Entry → List Entry → Type 0
IsSameOrNext es es' = (es' ≡ es) ⊎ ((e : Entry) × IsNext es e × (es' ≡ es ++ e ∷ []))

-- a step adds nothing, or one version at the end that is accepted there
abbrev pub StepsGrowAtTheEnd : Meanings → Type 0
StepsGrowAtTheEnd m = (es es' : List Entry) (command : Command) (reply : Reply) → HasRequestId command → Step m es command reply es' → IsSameOrNext es es'

-- over a run what is accepted stays so, and new versions stand behind the old ones
abbrev pub RunsKeepAcceptance : Meanings → Type 0
RunsKeepAcceptance m = (es es' : List Entry) (commands : List Command) (replies : List Reply)
    → AllByRecursion HasRequestId commands → AreAccepted es → Run m es commands replies es'
    → AreAccepted es' × ((more : List Entry) × (es' ≡ es ++ more))

-- a refusal adds nothing
abbrev pub RefusalsAddNothing : Meanings → Type 0
RefusalsAddNothing m = (es es' : List Entry) (command : Command) (why : Refusal) → Step m es command (refused why) es' → es' ≡ es

-- the reply says that a change was accepted
abbrev pub IsAcceptance : Reply → Type 0
IsAcceptance (created model version) = Unit {0}
IsAcceptance (edited model version) = Unit {0}
IsAcceptance _ = ⊥

-- a change that was accepted, sent again whatever was added since, gets the reply that was given, unless memory is wanting, and adds nothing
abbrev pub RepeatsGetTheirReply : Meanings → Type 0
RepeatsGetTheirReply m = (es es' more after : List Entry) (command : Command) (given reply : Reply)
    → IsAcceptance given → Step m es command given es' → Step m (es' ++ more) command reply after
    → ((reply ≡ given) ⊎ (reply ≡ refused no_memory)) × (after ≡ es' ++ more)

-- the command is a question, whose answer a decider has a part in
abbrev pub IsQuestion : Command → Type 0
IsQuestion (ask r) = Unit {0}
IsQuestion _ = ⊥

-- memory isn't wanting, and the keeper doesn't fail
pub record IsSettled (reply : Reply) : Type 0 where
  pub memory : ¬ (reply ≡ refused no_memory)
  pub kept : ¬ (reply ≡ refused keeper_fault)

-- a settled step of this command
pub record Settles (m : Meanings) (es : List Entry) (command : Command) : Type 0 where
  pub reply : Reply
  pub after : List Entry
  pub settled : IsSettled reply
  pub step : Step m es command reply after

-- each command but a question has a step
abbrev pub EachCommandHasAStep : Meanings → Type 0
EachCommandHasAStep m = (es : List Entry) (command : Command) → ¬ (IsQuestion command) → Settles m es command

-- and no other
abbrev pub NoCommandHasTwoSteps : Meanings → Type 0
NoCommandHasTwoSteps m = (es : List Entry) (command : Command) → ¬ (IsQuestion command) → (s t : Settles m es command)
    → (s.reply ≡ t.reply) × (s.after ≡ t.after)

-- a question adds nothing; where its checks refuse it, its one settled reply is that refusal
abbrev pub QuestionsAddNothing : Meanings → Type 0
QuestionsAddNothing m = (es es' : List Entry) (r : AskRequest) (reply : Reply) → Step m es (ask r) reply es' → es' ≡ es

abbrev pub RefusedQuestionsHaveOneReply : Meanings → Type 0
RefusedQuestionsHaveOneReply m = (es : List Entry) (r : AskRequest) (fault : AskFault) → judge_ask r (find_version r.model r.version es) ≡ Err fault
    → Step m es (ask r) (refused (of_question fault)) es × ((s : Settles m es (ask r)) → s.reply ≡ refused (of_question fault))

-- rows are those of one desk at most
abbrev pub RowsDetermineTheDesk : Type 0
RowsDetermineTheDesk = (rows : List Row) (es fs : List Entry) → IsDeskOf rows es → IsDeskOf rows fs → es ≡ fs

-- the rows of a desk have no bad row
abbrev pub DesksHaveNoBadRow : Type 0
DesksHaveNoBadRow = (rows : List Row) (es : List Entry) (n : ℕ) → IsDeskOf rows es → ¬ (IsFirstBadRow rows n)

-- rows have one first bad row at most
abbrev pub OneRowIsTheFirstBad : Type 0
OneRowIsTheFirstBad = (rows : List Row) (n k : ℕ) → IsFirstBadRow rows n → IsFirstBadRow rows k → n ≡ k
