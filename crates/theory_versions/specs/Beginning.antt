-- What a desk begins with: the versions of the rows that its keeper holds, or the first row that isn't accepted.
use Rattle.std.specs.Prelude.{◌≡◌, ◌≢◌, ℕ, List, [], ◌∷◌, ◌++◌, map, Option, None, Some, Result, Ok, Err}
use Rattle.std.specs.List.{AllByRecursion}
use Rattle.theory_meaning.specs.Text.{Numbered}
use Rattle.theory_grammar.specs.RoundTrip.{NothingDivides}
use Rattle.theory_session.specs.Accepted.{IsNext, IsNotNext, IsDeskOf, IsFirstBadRow}
use Rattle.theory_session.specs.Row as plain
use Rattle.theory_edge.specs.declared.row.Row.{Row}
use Rattle.theory_edge.specs.Keepers.{AreRows}
use Rattle.theory_versions.specs.declared.beginning.BeginFault.{BeginFault}
use Rattle.theory_versions.specs.declared.beginning.BeginFault.TheVariants.{BadRow, KeeperFault, Memory}
use Rattle.theory_versions.specs.declared.beginning.Refused.{Refused}
use Rattle.theory_versions.specs.declared.beginning.Unaccepted.{Unaccepted}
use Rattle.theory_versions.specs.declared.beginning.Unaccepted.TheVariants as unaccepted
use Rattle.theory_versions.specs.declared.book.Book.{Book}
use Rattle.theory_versions.specs.declared.created.CreateFault.{CreateFault}
use Rattle.theory_versions.specs.declared.created.CreateFault.TheVariants as fault
use Rattle.theory_versions.specs.declared.edited.EditRefusal.{EditRefusal}
use Rattle.theory_versions.specs.declared.edited.EditRefusal.TheVariants as refusal
use Rattle.theory_versions.specs.declared.entry.Entry.{Entry}
use Rattle.theory_versions.specs.Book.{entries_in, IsAddition}
use Rattle.theory_versions.specs.Entries.{row_of, entry_of}

-- a keeper that tells its late row has none
abbrev pub HasNoLate : Option (Option Row) → Type 0
HasNoLate None = Unit {0}
HasNoLate (Some None) = Unit {0}
HasNoLate (Some (Some late)) = ⊥

-- the keeper in what was begun, or the one that is handed back
abbrev pub keeper_after : {D K : Type 0} → (D → K) → Result D (Refused K) → K
keeper_after keeper_in (Ok d) = keeper_in d
keeper_after keeper_in (Err refused) = refused.keeper

-- the versions of what was begun, or why it wasn't
abbrev pub outcome_of : {D K : Type 0} → (D → List plain.Entry) → Result D (Refused K) → Result (List plain.Entry) BeginFault
outcome_of versions_in (Ok d) = Ok (versions_in d)
outcome_of versions_in (Err refused) = Err refused.fault

-- the versions of these rows, or the number of the first that isn't accepted
abbrev pub BeginsWith : List plain.Row → Result (List plain.Entry) BeginFault → Type 0
BeginsWith rows (Ok es) = IsDeskOf rows es
BeginsWith rows (Err (BadRow number)) = IsFirstBadRow rows number
BeginsWith rows (Err KeeperFault) = Unit {0}
BeginsWith rows (Err Memory) = Unit {0}

-- a desk begins with the rows of its keeper; where these aren't told, with some rows
pub record Begins (told : Option (List Row)) (outcome : Result (List plain.Entry) BeginFault) : Type 0 where
  pub rows : List Row
  pub are_rows : AreRows told rows
  pub begun : BeginsWith (map row_of rows) outcome

-- one version more, which this row made, or the row isn't accepted next; want of memory may come in place of either
abbrev pub Takes : List plain.Entry → plain.Row → Result Unit Unaccepted → List plain.Entry → Type 0
Takes es row (Ok _) es' = (e : plain.Entry) × (e.row ≡ row) × IsNext es e × (es' ≡ es ++ e ∷ [])
Takes es row (Err unaccepted.Bad) es' = IsNotNext es row
Takes es row (Err unaccepted.Memory) es' = Unit {0}

-- the version that a row makes, with the bytes that are counted with it, or the row isn't accepted next
abbrev pub IsTaken : List plain.Entry → plain.Row → Result (Entry × ℕ) Unaccepted → Type 0
IsTaken es row (Ok (e, size)) = ((entry_of e).row ≡ row) × IsNext es (entry_of e) × IsAddition es e size
IsTaken es row (Err unaccepted.Bad) = IsNotNext es row
IsTaken es row (Err unaccepted.Memory) = Unit {0}

-- the versions in a book, or why there is none
abbrev pub book_outcome : Result Book BeginFault → Result (List plain.Entry) BeginFault
book_outcome (Ok b) = Ok (entries_in b)
book_outcome (Err fault) = Err fault

-- two rows are of one version of a model, behind the same version
pub record IsSameVersion (a b : plain.Row) : Type 0 where
  pub model : a.model ≡ b.model
  pub version : a.version ≡ b.version
  pub base : a.base ≡ b.base

-- nothing divides in these lines
abbrev pub NothingDividesIn : List Numbered → Type 0
NothingDividesIn = AllByRecursion (λ n. NothingDivides n.line)

-- why a row isn't taken, whose creation is refused so
abbrev pub unaccepted_creation : CreateFault → Unaccepted
unaccepted_creation fault.Memory = unaccepted.Memory
unaccepted_creation _ = unaccepted.Bad

-- why a row isn't taken, whose edit is refused so
abbrev pub unaccepted_edit : EditRefusal → Unaccepted
unaccepted_edit refusal.Memory = unaccepted.Memory
unaccepted_edit _ = unaccepted.Bad
