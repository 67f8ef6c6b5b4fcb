-- The steps of a run: how a command on its file stops, and what is reported on err.
use Rattle.std.specs.Prelude.{◌≡◌, ◌⊎◌, ℕ, List, ◌++◌, Option, Some, None, Result, Ok, Err, codes, if◌then◌else◌}
use Rattle.theory_meaning.specs.Faults.{Rose}
use Rattle.theory_edge.specs.Files.{FilesTold}
use Rattle.theory_edge.specs.Sinks.{SinkTold}
use Rattle.theory_session.specs.Run.{Reply, some_open}
use Rattle.theory_session.specs.Printed.{line_end}
use Rattle.theory_words.specs.Commands.{Command}
use Rattle.theory_cli.specs.declared.status.Status.{Status}
use Rattle.theory_cli.specs.declared.status.Status.TheVariants as status
use Rattle.theory_cli.specs.declared.text_refusal.TextRefusal.{TextRefusal}
use Rattle.theory_cli.specs.declared.text_refusal.TextRefusal.TheVariants as refusal
use Rattle.theory_cli.specs.declared.running.Stop.{Stop}
use Rattle.theory_cli.specs.declared.running.Stop.TheVariants.{Refused, Unread, Unwritten, NoMemory}
use Rattle.theory_model.specs.Checked as model
use Rattle.theory_text.specs.Answers as text
use Rattle.theory_meaning.specs.Deciding.{Meanings}
use Rattle.theory_syntax.specs.Plain.{lines_of}
use Rattle.theory_syntax.specs.declared.text.Numbered as source
use Rattle.theory_cli.specs.Command.{file_of, Given, no_words, no_command, not_asked, no_bytes, gave, IsGiven, IsAsked}
use Rattle.theory_cli.specs.TextRefusal.{text_fault_text, model_fault_text, IsTextRefusal, SpellsModel}
use Rattle.theory_cli.specs.Ending.{IsCause, IsErrLine, IsWritten, no_memory_line}
use Rattle.theory_cli.specs.Run.{AreMade, IsOutput}

-- what is told of a refusal behind the name of the file
abbrev pub text_refusal_text : TextRefusal → List ℕ
text_refusal_text (refusal.Text error) = text_fault_text (text.fault_of error)
text_refusal_text (refusal.Model fault) = model_fault_text (model.fault_of fault)

-- why these bytes give no model
abbrev pub StopsAt : List ℕ → Stop → Type 0
StopsAt bytes (Refused r) = IsTextRefusal bytes (text_refusal_text r)
StopsAt bytes Unread = ⊥
StopsAt bytes Unwritten = ⊥
StopsAt bytes NoMemory = Unit {0}

-- the bytes spell the model, or why they don't
abbrev pub IsParsed : List ℕ → Result (List source.Numbered) Stop → Type 0
IsParsed bytes (Ok lines) = SpellsModel bytes (lines_of lines)
IsParsed bytes (Err stop) = StopsAt bytes stop

-- the command that was given, if one was
abbrev pub given_command : Given → Option Command
given_command no_words = None
given_command no_command = None
given_command (not_asked c) = Some c
given_command (no_bytes c) = Some c
given_command (gave c bytes) = Some c

-- this command was given, and its file was asked for once where the run got that far
pub record HasRead (c : Command) (given : Given) (before now : FilesTold) : Type 0 where
  pub command : given_command given ≡ Some c
  pub read : IsGiven before.texts given
  pub asked : IsAsked given before now

-- what was given as a model, or why it is none
abbrev pub GivesModel : Given → FilesTold → FilesTold → Result (List source.Numbered) Stop → Type 0
GivesModel (gave c bytes) before now parsed = IsParsed bytes parsed
GivesModel (no_bytes c) before now (Err Unread) = Rose before.faults now.faults
GivesModel (no_bytes c) before now (Err NoMemory) = Unit {0}
GivesModel (not_asked c) before now (Err NoMemory) = Unit {0}
GivesModel given before now parsed = ⊥

-- the file of a command was read as a model, or why it wasn't
abbrev pub ReadsFile : Command → FilesTold → FilesTold → Result (List source.Numbered) Stop → Type 0
ReadsFile c before now parsed = (given : Given) × HasRead c given before now × GivesModel given before now parsed

-- the status that a stop means
abbrev pub meant_by : Stop → Status
meant_by (Refused r) = status.Refused
meant_by Unread = status.Unread
meant_by Unwritten = status.Unwritten
meant_by NoMemory = status.NoMemory

-- the end of a run with all its replies
abbrev pub ended_with : List Reply → Status
ended_with replies = if some_open replies then status.Unsettled else status.Finished

-- the end that a run reached
abbrev pub reached_by : List Reply → Result (Unit {0}) Stop → Status
reached_by replies (Ok _) = ended_with replies
reached_by replies (Err stop) = meant_by stop

-- the line on err that goes with a stop of a run on this file
abbrev pub stop_line : List ℕ → Stop → List ℕ
stop_line file (Refused r) = file ++ text_refusal_text r ++ line_end
stop_line file Unread = codes "theory: cannot read " ++ file ++ line_end
stop_line file Unwritten = no_memory_line
stop_line file NoMemory = no_memory_line

-- the line of a stop is that of its end; a run that didn't stop, or whose write failed, has none
abbrev pub HasLine : Command → Given → Result (Unit {0}) Stop → Type 0
HasLine c given (Ok _) = Unit {0}
HasLine c given (Err Unwritten) = Unit {0}
HasLine c given (Err stop) = IsErrLine given (meant_by stop) (stop_line (file_of c) stop)

-- the facts of a run of this command, but for its end on err
pub record CarriesOut (m : Meanings) (c : Command) (given : Given) (files files' : FilesTold) (replies : List Reply) (out out' : SinkTold)
    (stopped : Result (Unit {0}) Stop) : Type 0 where
  pub read : HasRead c given files files'
  pub cause : IsCause given files files' (reached_by replies stopped)
  pub made : AreMade m given (reached_by replies stopped) replies
  pub output : IsOutput (reached_by replies stopped) replies out out'
  pub line : HasLine c given stopped

-- a run of this command was given something of which its facts are true
abbrev pub IsCarriedOut : Meanings → Command → FilesTold → FilesTold → List Reply → SinkTold → SinkTold → Result (Unit {0}) Stop → Type 0
IsCarriedOut m c files files' replies out out' stopped = (given : Given) × CarriesOut m c given files files' replies out out' stopped

-- a stop is reported on err, or that memory is wanting for it; behind a write to out that failed err is left as it was
abbrev pub Reports : List ℕ → Stop → SinkTold → SinkTold → Status → Type 0
Reports file Unwritten before now ended = (ended ≡ status.Unwritten) × (now ≡ before)
Reports file stop before now ended =
    IsWritten (meant_by stop) (stop_line file stop) before now ended ⊎ IsWritten status.NoMemory no_memory_line before now ended
