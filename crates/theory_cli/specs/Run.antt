-- A whole run of the program: what is known of its replies, its ends and its status, from the words and what was given.
use Rattle.std.specs.Prelude.{◌≡◌, ◌≢◌, ◌⊎◌, ℕ, true, false, List, []}
use Rattle.theory_meaning.specs.Deciding.{Meanings}
use Rattle.theory_meaning.specs.Faults.{Rose}
use Rattle.theory_meaning.specs.Text.{Numbered}
use Rattle.theory_edge.specs.Files.{FilesTold}
use Rattle.theory_edge.specs.Sinks.{SinkTold}
use Rattle.theory_session.specs.Run.{Reply, some_open}
use Rattle.theory_words.specs.Commands.{Command, IsCommand, IsNoCommand}
use Rattle.theory_cli.specs.declared.status.Status.{Status}
use Rattle.theory_cli.specs.declared.status.Status.TheVariants.{Finished, Unsettled, NoCommand, Refused, Unwritten, NoMemory}
use Rattle.theory_cli.specs.Command.{Given, gave, AreWords, IsGiven, IsAsked}
use Rattle.theory_cli.specs.Ending.{IsCause, IsReported}
use Rattle.theory_cli.specs.TextRefusal.{IsTextRefusal, SpellsModel}
use Rattle.theory_cli.specs.Session.{AreReplies, AreFirstReplies}
use Rattle.theory_cli.specs.Taking.{TookReplies, CutInLast}

-- what all ends of a run tell
pub record Ends : Type 0 where
  pub files : FilesTold
  pub out : SinkTold
  pub err : SinkTold

-- a fact about the model that the bytes spell
abbrev pub OfModel : List ℕ → (List Numbered → Type 0) → Type 0
OfModel bytes IsMet = (lines : List Numbered) × SpellsModel bytes lines × IsMet lines

-- all replies of the command to the model that was given at the end, a beginning of them where a run stopped on the way, and else none
abbrev pub AreMade : Meanings → Given → Status → List Reply → Type 0
AreMade m (gave c bytes) Finished replies = OfModel bytes (λ lines. AreReplies m c lines replies) × (some_open replies ≡ false)
AreMade m (gave c bytes) Unsettled replies = OfModel bytes (λ lines. AreReplies m c lines replies) × (some_open replies ≡ true)
AreMade m (gave c bytes) Unwritten replies = OfModel bytes (λ lines. AreFirstReplies m c lines replies)
AreMade m (gave c bytes) NoMemory replies = (replies ≡ []) ⊎ OfModel bytes (λ lines. AreFirstReplies m c lines replies)
AreMade m given reached replies = replies ≡ []

-- out took the prints of the replies, and where a write to it failed the cut lies in the last one
abbrev pub IsOutput : Status → List Reply → SinkTold → SinkTold → Type 0
IsOutput Unwritten replies before now = CutInLast replies before now
IsOutput reached replies before now = TookReplies replies before now

-- the run ended with all replies of its command
abbrev pub IsAnswered : Status → Type 0
IsAnswered status = (status ≡ Finished) ⊎ (status ≡ Unsettled)

-- bytes that spell a model aren't refused, and bytes that are refused aren't answered
abbrev pub IsDecided : Given → Status → Type 0
IsDecided (gave c bytes) status =
    (OfModel bytes (λ lines. Unit {0}) → status ≢ Refused) × ((told : List ℕ) → IsTextRefusal bytes told → ¬ IsAnswered status)
IsDecided given status = Unit {0}

-- no count of faults rose
pub record NoneFailed (before now : Ends) : Type 0 where
  pub files : ¬ Rose before.files.faults now.files.faults
  pub out : ¬ Rose before.out.faults now.out.faults
  pub err : ¬ Rose before.err.faults now.err.faults

-- where no count of faults rose a command ends with its replies, with a refusal or with want of memory; and where
-- that of err didn't, words that are no command end so, or with want of memory
pub record IsComplete (words : List (List ℕ)) (before now : Ends) (status : Status) : Type 0 where
  pub command : (c : Command) → IsCommand words c → NoneFailed before now →
      IsAnswered status ⊎ (status ≡ Refused) ⊎ (status ≡ NoMemory)
  pub no_command : IsNoCommand words → ¬ Rose before.err.faults now.err.faults → (status ≡ NoCommand) ⊎ (status ≡ NoMemory)

-- the facts of a run that was given this, and that reached this end before the end was told on err
pub record RunsBy (m : Meanings) (given : Given) (reached : Status) (words : List (List ℕ)) (before now : Ends) (status : Status) (replies : List Reply) : Type 0 where
  pub command : AreWords words given
  pub read : IsGiven before.files.texts given
  pub asked : IsAsked given before.files now.files
  pub cause : IsCause given before.files now.files reached
  pub made : AreMade m given reached replies
  pub output : IsOutput reached replies before.out now.out
  pub reported : IsReported given reached before.err now.err status
  pub failed : status ≡ Unwritten → Rose before.out.faults now.out.faults ⊎ Rose before.err.faults now.err.faults
  pub decided : IsDecided given status
  pub complete : IsComplete words before now status

-- the run of a program with these words: something was given and some end reached of which all these facts are true
abbrev pub IsRun : Meanings → List (List ℕ) → Ends → Ends → Status → List Reply → Type 0
IsRun m words before now status replies = (given : Given) × (reached : Status) × RunsBy m given reached words before now status replies
