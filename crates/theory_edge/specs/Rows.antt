-- Rows, as they are kept.
use Rattle.std.specs.Prelude.{◌≤◌, List, [], ◌∷◌, ◌++◌, length, Result, Ok, Err}
use Rattle.theory_edge.specs.declared.files.EndFault.{EndFault}
use Rattle.theory_edge.specs.declared.row.Row.{Row}

-- rows with one more at the end
abbrev pub with_row : List Row → Row → List Row
with_row rows row = rows ++ row ∷ []

-- the rows after an append with this answer; one that doesn't succeed keeps nothing
abbrev pub kept_after : {T : Type 0} → List Row → Row → Result T EndFault → List Row
kept_after rows row (Ok _) = with_row rows row
kept_after rows row (Err _) = rows

-- a row that every keeper takes
pub record IsRowFit (row : Row) : Type 0 where
  pub model : length row.model ≤ 32
  pub id : length row.id ≤ 64
  pub body : length row.body ≤ 65536
