-- What is known of files and of a sink in memory, whose faults are planned by the number of a call.
use Rattle.std.specs.Prelude.{◌≡◌, ◌⊎◌, ℕ, ◌+◌, ◌<◌, List, [], ◌∷◌, ◌++◌, length, Contains, Option, None, Some, Result, Ok, Err, if◌then◌else◌}
use Rattle.std.specs.Str.{bytes_eq}
use Rattle.theory_edge.specs.declared.files.EndFault.{EndFault}
use Rattle.theory_edge.specs.declared.files.EndFault.TheVariants.{Failed, NoMemory}
use Rattle.theory_edge.specs.declared.memory.MemText.{MemText}
use Rattle.theory_meaning.specs.Faults.{one_more}
use Rattle.theory_edge.specs.Files.{Asking, Texts, FilesTold, faults_after}
use Rattle.theory_edge.specs.Sinks.{SinkTold}

-- texts by name, which calls fail, how many calls and faults there were, and what was last asked for
pub record MemFilesState : Type 0 where
  pub texts : List (List ℕ × List ℕ)
  pub fails : List ℕ
  pub calls : ℕ
  pub faults : ℕ
  pub asked : Asking

-- the bytes taken, of how many in all, which calls fail, and how many calls and faults there were
pub record MemSinkState : Type 0 where
  pub held : List ℕ
  pub room : ℕ
  pub fails : List ℕ
  pub calls : ℕ
  pub faults : ℕ

-- files that no one has read
abbrev pub unread : List (List ℕ × List ℕ) → List ℕ → MemFilesState
unread texts fails = record { texts = texts; fails = fails; calls = 0; faults = 0; asked = None }

-- a sink that no one has written to
abbrev pub unwritten : ℕ → List ℕ → MemSinkState
unwritten room fails = record { held = []; room = room; fails = fails; calls = 0; faults = 0 }

-- the name of a text, and its bytes
abbrev pub entry_of : MemText → List ℕ × List ℕ
entry_of entry = (entry.name, entry.text)

-- the first text with the name
abbrev pub text_under : List (List ℕ × List ℕ) → List ℕ → Option (List ℕ)
text_under [] name = None
text_under (entry ∷ rest) name =
    if bytes_eq entry.0 name then Some entry.1 else text_under rest name

-- every text is told
abbrev pub mem_texts : MemFilesState → Texts
mem_texts files = Some (text_under files.texts)

-- what files in memory tell; each call is a read
abbrev pub mem_told : MemFilesState → FilesTold
mem_told files = record { texts = mem_texts files; reads = files.calls; asked = files.asked; faults = files.faults }

-- what a sink in memory tells
abbrev pub mem_sink_told : MemSinkState → SinkTold
mem_sink_told sink = record { held = Some sink.held; faults = sink.faults }

-- the next read of this name is one of those that fail, or the name is missing
abbrev pub ReadFails : MemFilesState → List ℕ → Type 0
ReadFails files name =
    Contains files.fails (one_more files.calls) ⊎ (text_under files.texts name ≡ None)

-- Failed exactly where it has to be, unless memory runs out
abbrev pub FailsWhere : {T : Type 0} → Type 0 → Result T EndFault → Type 0
FailsWhere Fails (Ok _) = ¬ Fails
FailsWhere Fails (Err Failed) = Fails
FailsWhere Fails (Err NoMemory) = Unit {0}

-- the files after a read of this name with this answer
abbrev pub after_read : {T : Type 0} → MemFilesState → List ℕ → Result T EndFault → MemFilesState
after_read files name answer =
    record files {
      calls = one_more files.calls;
      faults = faults_after files.faults answer;
      asked = Some (name, files.faults);
    }

-- the next write is one of those that fail, or the piece doesn't fit the room that is left
abbrev pub WriteFails : MemSinkState → List ℕ → Type 0
WriteFails sink piece =
    Contains sink.fails (one_more sink.calls) ⊎ (sink.room < length sink.held + length piece)

-- the sink after a write of this piece with this answer; a write that fails takes nothing
abbrev pub after_write : {T E : Type 0} → MemSinkState → List ℕ → Result T E → MemSinkState
after_write sink piece (Ok _) =
    record sink { held = sink.held ++ piece; calls = one_more sink.calls }
after_write sink piece (Err _) =
    record sink { calls = one_more sink.calls; faults = one_more sink.faults }
