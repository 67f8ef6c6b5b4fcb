-- How a run of the program ends: its status and exit number, what is the cause of each, and its line on err.
use Rattle.std.specs.Prelude.{◌≡◌, ◌⊎◌, ℕ, List, ◌++◌, codes}
use Rattle.theory_meaning.specs.Faults.{Rose}
use Rattle.theory_edge.specs.Files.{FilesTold}
use Rattle.theory_edge.specs.Sinks.{SinkTold}
use Rattle.theory_session.specs.Printed.{line_end}
use Rattle.theory_words.specs.Commands.{Command, check, derive}
use Rattle.theory_cli.specs.declared.status.Status.{Status}
use Rattle.theory_cli.specs.declared.status.Status.TheVariants.{Finished, Unsettled, NoCommand, Refused, Unread, Unwritten, NoMemory}
use Rattle.theory_cli.specs.Command.{Given, no_words, no_command, not_asked, no_bytes, gave, file_of}
use Rattle.theory_cli.specs.TextRefusal.{IsTextRefusal}
use Rattle.theory_cli.specs.Taking.{IsTold, IsCutOff}

-- the exit status of a program that ended so
abbrev pub exit_number : Status → ℕ
exit_number Finished = 0
exit_number Unsettled = 1
exit_number NoCommand = 2
exit_number Refused = 3
exit_number Unread = 5
exit_number Unwritten = 6
exit_number NoMemory = 9

-- the command may end with a reply that is open: only a check does
abbrev pub MayEndUnsettled : Command → Type 0
MayEndUnsettled (check file kind on) = Unit {0}
MayEndUnsettled (derive file) = ⊥

-- the end that may come of what was given, before it is told on err, with the files before and after
abbrev pub IsCause : Given → FilesTold → FilesTold → Status → Type 0
IsCause no_words before now NoMemory = Unit {0}
IsCause no_command before now NoCommand = Unit {0}
IsCause (not_asked c) before now NoMemory = Unit {0}
IsCause (no_bytes c) before now NoMemory = Unit {0}
IsCause (no_bytes c) before now Unread = Rose before.faults now.faults
IsCause (gave c bytes) before now Finished = Unit {0}
IsCause (gave c bytes) before now Unsettled = MayEndUnsettled c
IsCause (gave c bytes) before now Refused = (told : List ℕ) × IsTextRefusal bytes told
IsCause (gave c bytes) before now Unwritten = Unit {0}
IsCause (gave c bytes) before now NoMemory = Unit {0}
IsCause given before now reached = ⊥

-- the line of want of memory
abbrev pub no_memory_line : List ℕ
no_memory_line = codes "theory: no memory" ++ line_end

-- the line of words that are no command
abbrev pub no_command_line : List ℕ
no_command_line = codes "theory: these words are no command" ++ line_end

-- the line on err that goes with an end
abbrev pub IsErrLine : Given → Status → List ℕ → Type 0
IsErrLine given NoCommand line = line ≡ no_command_line
IsErrLine (gave c bytes) Refused line = (told : List ℕ) × IsTextRefusal bytes told × (line ≡ file_of c ++ told ++ line_end)
IsErrLine (no_bytes c) Unread line = line ≡ codes "theory: cannot read " ++ file_of c ++ line_end
IsErrLine given NoMemory line = line ≡ no_memory_line
IsErrLine given reached line = ⊥

-- the line was written and the run ends as was meant, or it was cut off and the run ends with a failed write
abbrev pub IsWritten : Status → List ℕ → SinkTold → SinkTold → Status → Type 0
IsWritten meant line before now status =
    ((status ≡ meant) × IsTold line before now) ⊎ ((status ≡ Unwritten) × IsCutOff line before now)

-- the end that was reached is told on err by its line; one that has none leaves err as it was
abbrev pub IsReported : Given → Status → SinkTold → SinkTold → Status → Type 0
IsReported given Finished before now status = (status ≡ Finished) × (now ≡ before)
IsReported given Unsettled before now status = (status ≡ Unsettled) × (now ≡ before)
IsReported given Unwritten before now status = (status ≡ Unwritten) × (now ≡ before)
IsReported given reached before now status = (line : List ℕ) × IsErrLine given reached line × IsWritten reached line before now status
