-- What is known of a ledger: its versions, and its keeper, which holds their rows.
use Rattle.std.specs.Prelude.{◌≡◌, ℕ, List, map, Option, None, Some}
use Rattle.theory_session.specs.Accepted.{IsNext}
use Rattle.theory_session.specs.Row as plain
use Rattle.theory_session.specs.Row.{rows_of}
use Rattle.theory_edge.specs.declared.opened.Opened.TheVariants.{Now}
use Rattle.theory_edge.specs.declared.row.Row.{Row}
use Rattle.theory_edge.specs.Keepers.{KeeperTold}
use Rattle.theory_versions.specs.declared.entry.Entry.{Entry}
use Rattle.theory_versions.specs.Book.{IsBook}
use Rattle.theory_versions.specs.Entries.{row_of}
use Rattle.theory_versions.specs.Index.{Places, Requests}

-- versions and the keeper of their rows
pub record LedgerState (K : Type 0) : Type 0 where
  pub entries : List Entry
  pub keeper : K

-- where the keeper tells its rows they are those of the versions
abbrev pub TellsRows : Option (List Row) → List plain.Entry → Type 0
TellsRows None es = Unit {0}
TellsRows (Some rows) es = map row_of rows ≡ rows_of es

-- where it tells its late row, that is accepted next
abbrev pub TellsLate : Option (Option Row) → List plain.Entry → Type 0
TellsLate (Some (Some late)) es = (e : plain.Entry) × IsNext es e × (e.row ≡ row_of late)
TellsLate _ es = Unit {0}

-- the keeper is opened, and what it tells are the rows of the versions
pub record IsKeeping (told : KeeperTold) (es : List plain.Entry) : Type 0 where
  pub opened : told.opened ≡ Now
  pub rows : TellsRows told.rows es
  pub late : TellsLate told.late es

-- how the parts of a ledger stand to its versions
pub record IsLedger (es : List plain.Entry) (held : Places) (asked : Requests) (size : ℕ) (told : KeeperTold) : Type 0 where
  pub book : IsBook es held asked size
  pub keeping : IsKeeping told es
