-- The rows and versions that the types of the code stand for.
use Rattle.std.specs.Prelude.{ℕ, List, map}
use Rattle.theory_session.specs.Row as plain
use Rattle.theory_edge.specs.declared.row.Row.{Row}
use Rattle.theory_syntax.specs.Plain.{lines_of}
use Rattle.theory_versions.specs.declared.entry.Entry.{Entry}

-- a row
abbrev pub row_of : Row → plain.Row
row_of r = record { format = r.format; model = r.model; version = r.version; base = r.base; id = r.id; body = r.body }

-- a version
abbrev pub entry_of : Entry → plain.Entry
entry_of e = record { row = row_of e.row; lines = lines_of e.model }

-- versions in order
abbrev pub entries_of : List Entry → List plain.Entry
entries_of = map entry_of
