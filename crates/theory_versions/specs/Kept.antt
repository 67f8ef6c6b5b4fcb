-- What a change does to the keeper of a desk, and what a stop of the machine during it may leave.
use Rattle.std.specs.Prelude.{◌≡◌, ◌⊎◌, ℕ, suc, List, [], ◌∷◌, ◌++◌, length, map, Option, None, Some, Result, Ok, Err}
use Rattle.theory_meaning.specs.Faults.{HasCause, one_more}
use Rattle.theory_session.specs.Accepted.{IsNext}
use Rattle.theory_meaning.specs.Point.{Name}
use Rattle.theory_session.specs.Row as plain
use Rattle.theory_session.specs.Row.{rows_of}
use Rattle.theory_session.specs.Run.{Reply}
use Rattle.theory_session.specs.Step.{IsAdded, OrNoMemory}
use Rattle.theory_edge.specs.declared.row.Row.{Row}
use Rattle.theory_edge.specs.Keepers.{KeeperTold}
use Rattle.theory_versions.specs.declared.entry.Entry.{Entry}
use Rattle.theory_versions.specs.Entries.{row_of, entry_of}

-- one more append answered Ok exactly where there is one version more
pub record AppendsAs (es es' : List plain.Entry) (old new : ℕ) : Type 0 where
  pub still : length es' ≡ length es → new ≡ old
  pub one : length es' ≡ suc (length es) → new ≡ one_more old

-- the keeper's fault is its own, nothing else is asked of it, and it appends what is added
pub record UsesKeeper {T E : Type 0} (fault : E) (es es' : List plain.Entry) (old new : KeeperTold) (result : Result T E) : Type 0 where
  pub cause : HasCause fault old.faults new.faults result
  pub asked : new.asked ≡ old.asked
  pub appended : AppendsAs es es' old.appended new.appended

-- where they are told, the rows that a stop leaves are those of the versions, or these with one that is accepted next
abbrev pub IsStop : Option (List Row) → Option (Option Row) → List plain.Entry → List Row → Type 0
IsStop (Some told) (Some late) es rows =
    (map row_of rows ≡ rows_of es) ⊎ ((e : plain.Entry) × IsNext es e × (map row_of rows ≡ rows_of (es ++ e ∷ [])))
IsStop _ _ es rows = Unit {0}

-- the same of a keeper
abbrev pub IsStopOf : KeeperTold → List plain.Entry → List Row → Type 0
IsStopOf told es = IsStop told.rows told.late es

-- the versions with this one, where it was kept
abbrev pub added_after : {T E : Type 0} → List plain.Entry → Entry → Result T E → List plain.Entry
added_after es e (Ok _) = es ++ entry_of e ∷ []
added_after es e (Err _) = es

-- the reply to a change that adds this version: it is added, or the keeper fails, or memory is wanting
abbrev pub AddsOr : (Name → ℕ → Reply) → List plain.Entry → plain.Entry → Reply → List plain.Entry → Type 0
AddsOr accepted es e reply es' = OrNoMemory es reply es' (IsAdded accepted es e reply es')
