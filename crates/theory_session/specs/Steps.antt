-- Runs of the desk: one step after another, with one reply a command.
use Rattle.std.specs.Prelude.{◌≡◌, List, [], ◌∷◌, ◌++◌}
use Rattle.theory_meaning.specs.Deciding.{Meanings}
use Rattle.theory_session.specs.Row.{Entry}
use Rattle.theory_session.specs.Run.{Reply}
use Rattle.theory_session.specs.Step.{Command, Step}

-- a run of these commands with these replies, from versions to versions
abbrev pub Run : Meanings → List Entry → List Command → List Reply → List Entry → Type 0
Run m es [] [] es' = es' ≡ es
Run m es (command ∷ commands) (reply ∷ replies) es' = (mid : List Entry) × Step m es command reply mid × Run m mid commands replies es'
Run m es [] (reply ∷ replies) es' = ⊥
Run m es (command ∷ commands) [] es' = ⊥

-- a run of the first of these commands
pub record BeginsRun (m : Meanings) (es : List Entry) (commands : List Command) (replies : List Reply) (es' : List Entry) : Type 0 where
  pub front : List Command
  pub rest : List Command
  pub all : front ++ rest ≡ commands
  pub run : Run m es front replies es'
