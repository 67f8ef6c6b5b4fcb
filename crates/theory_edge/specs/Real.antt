-- What is known of the files of the system, and of a stream that is written to.
use Rattle.std.specs.Prelude.{ℕ, List, None, Some, Result, Ok, Err}
use Rattle.theory_edge.specs.declared.files.EndFault.{EndFault}
use Rattle.theory_meaning.specs.Faults.{one_more}
use Rattle.theory_edge.specs.Files.{Asking, FilesTold, faults_after}
use Rattle.theory_edge.specs.Sinks.{SinkTold}

-- how many reads were made and how many failed, and what was last asked for
pub record RealState : Type 0 where
  pub reads : ℕ
  pub faults : ℕ
  pub asked : Asking

-- what the files of the system tell
abbrev pub real_told : RealState → FilesTold
real_told files = record { texts = None; reads = files.reads; asked = files.asked; faults = files.faults }

-- what a stream tells, by its count of faults
abbrev pub stream_told : ℕ → SinkTold
stream_told faults = record { held = None; faults = faults }

-- the files after a read of this name with this answer
abbrev pub after_real_read : {T : Type 0} → RealState → List ℕ → Result T EndFault → RealState
after_real_read files name answer =
    record { reads = one_more files.reads; faults = faults_after files.faults answer; asked = Some (name, files.faults) }

-- the count of faults of a stream after a write with this answer
abbrev pub after_real_write : {T E : Type 0} → ℕ → Result T E → ℕ
after_real_write before (Ok _) = before
after_real_write before (Err _) = one_more before
