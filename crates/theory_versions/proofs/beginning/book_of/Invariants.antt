use Rattle.std.proofs.Common.{◌≡◌, ◌++◌, length, map, drop}
use Rattle.theory_session.specs.Row.{rows_of}
use Rattle.theory_versions.specs.Book.{entries_in, IsBookOf}
use Rattle.theory_versions.specs.Entries.{row_of}
use Rattle.theory_versions.proofs.beginning.book_of.Given as goal

-- the versions so far are those of the rows before this one
abbrev pub invariant-loop-k : goal.invariant-loop-k
invariant-loop-k l = record {
  book : IsBookOf l.book;
  rows : rows_of (entries_in l.book) ++ map row_of (drop l.k l.rows) ≡ map row_of l.rows;
  count : length (entries_in l.book) ≡ l.k;
}
