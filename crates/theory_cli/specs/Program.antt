-- What a program does with the words that it is started with, and with what exit status it ends.
use Rattle.std.specs.Prelude.{◌≡◌, ◌⊎◌, ℕ, List, map, String, string_bytes, Result, Ok, Err}
use Rattle.std.specs.declared.vec.Vec.{Vec}
use Rattle.std.specs.Global.{Global}
use Rattle.theory_decision.specs.Engine.{engine}
use Rattle.theory_cli.specs.declared.entry.NoWords.{NoWords}
use Rattle.theory_cli.specs.declared.entry.NoWords.TheVariants.{NotText, NoMemory as NoRoom}
use Rattle.theory_points.specs.declared.limit.NoMemory.{NoMemory}
use Rattle.theory_session.specs.Run.{Reply}
use Rattle.theory_cli.specs.declared.status.Status.{Status}
use Rattle.theory_cli.specs.declared.status.Status.TheVariants as end
use Rattle.theory_cli.specs.Ending.{exit_number, no_command_line, no_memory_line, IsWritten}
use Rattle.theory_cli.specs.Run.{Ends, IsRun}

-- nothing was read or written but this line on err, with which the program ends so
pub record OnlyTells (meant : Status) (line : List ℕ) (before now : Ends) (status : Status) : Type 0 where
  pub files : now.files ≡ before.files
  pub out : now.out ≡ before.out
  pub err : IsWritten meant line before.err now.err status

-- a run by the engine, or for want of memory none
abbrev pub RunsOrNot : List (List ℕ) → Ends → Ends → Result Status NoMemory → Type 0
RunsOrNot words before now (Ok status) = (replies : List Reply) × IsRun engine words before now status replies
RunsOrNot words before now (Err _) = now ≡ before

-- the end of a program with these words; words that can't be read are no command, or memory is wanting for them
abbrev pub EndsProgram : Result (Vec (String Global) Global) NoWords → Ends → Ends → Status → Type 0
EndsProgram (Ok words) before now status =
    ((replies : List Reply) × IsRun engine (map string_bytes words.items) before now status replies)
    ⊎ OnlyTells end.NoMemory no_memory_line before now status
EndsProgram (Err NotText) before now status = OnlyTells end.NoCommand no_command_line before now status
EndsProgram (Err NoRoom) before now status = OnlyTells end.NoMemory no_memory_line before now status

-- the program ends with the number of the status that its words lead to
abbrev pub IsProgram : Result (Vec (String Global) Global) NoWords → Ends → Ends → ℕ → Type 0
IsProgram words before now number = (status : Status) × EndsProgram words before now status × (number ≡ exit_number status)
