use Rattle.std.proofs.Common.{◌≡◌, List, sym, subst}
use Rattle.theory_session.specs.Accepted.{IsNext}
use Rattle.theory_session.specs.Row as plain
use Rattle.theory_versions.specs.Entries.{entry_of}
use Rattle.theory_versions.proofs.LedgerLemmas.{entries_more}
use Rattle.theory_versions.proofs.book.Book.take.Goals as goal

pub add-requires-clause-next : goal.add-requires-clause-next
add-requires-clause-next c =
    subst (λ (es : List plain.Entry). IsNext es (entry_of c.in-Ok.next.0)) (sym c.take_room.ensures.entries) c.in-Ok.ensures.1

pub returns-clause-taken : goal.returns-clause-taken
returns-clause-taken c = (
  entry_of c.in-Ok.next.0,
  c.in-Ok.ensures.0,
  c.in-Ok.ensures.1,
  entries_more _ _ c.in-Ok.next.0 _ c.add.ensures.entries c.take_room.ensures.entries,
)
