use Rattle.std.proofs.Common.{◌≡◌, List, sym, subst, refl, ◌∙◌}
use Rattle.theory_session.specs.Accepted.{IsNext}
use Rattle.theory_session.specs.Row as plain
use Rattle.theory_versions.specs.Entries.{entry_of, entries_of}
use Rattle.theory_versions.specs.Index.{places_of, requests_of}
use Rattle.theory_versions.proofs.LedgerLemmas.{ledger_failed, entries_more, keeping_added, next_inside}
use Rattle.theory_versions.proofs.StopLemmas.{stop_append}
use Rattle.theory_versions.proofs.ledger.Ledger.add.Goals as goal

pub invariant_of-self-in-Err-Failed : goal.invariant_of-self-in-Err-Failed
invariant_of-self-in-Err-Failed g c =
    ledger_failed c.in-Err-Failed.field-0 (entries_of c.self.inside.book.entries.items) _ _ _ _ (g.K.Keeper.told c.self.inside.keeper) _ c.args.entry
    c.take_room.ensures.entries (c.take_room.ensures.book c.self.invariant.book) c.self.invariant.keeping
    (next_inside _ _ (entry_of c.args.entry) c.self.view_is c.requires.next)
    c.in-Err-Failed.ensures.append

pub returns-in-Err-Failed-clause-stops : goal.returns-in-Err-Failed-clause-stops
returns-in-Err-Failed-clause-stops g c =
    rw (← c.self.view_is)
    (stop_append (g.K.Keeper.told c.self.inside.keeper) (g.K.Keeper.stops c.self.inside.keeper) _ c.args.entry.row
    (entries_of c.self.inside.book.entries.items) (entry_of c.args.entry) c.self.invariant.keeping
    (next_inside _ _ (entry_of c.args.entry) c.self.view_is c.requires.next)
    refl c.in-Err-Failed.ensures.stops)

pub invariant_of-self-in-Err-NoMemory : goal.invariant_of-self-in-Err-NoMemory
invariant_of-self-in-Err-NoMemory g c =
    ledger_failed c.in-Err-NoMemory.field-0 (entries_of c.self.inside.book.entries.items) _ _ _ _ (g.K.Keeper.told c.self.inside.keeper) _ c.args.entry
    c.take_room.ensures.entries (c.take_room.ensures.book c.self.invariant.book) c.self.invariant.keeping
    (next_inside _ _ (entry_of c.args.entry) c.self.view_is c.requires.next)
    c.in-Err-NoMemory.ensures.append

pub returns-in-Err-NoMemory-clause-stops : goal.returns-in-Err-NoMemory-clause-stops
returns-in-Err-NoMemory-clause-stops g c =
    rw (← c.self.view_is)
    (stop_append (g.K.Keeper.told c.self.inside.keeper) (g.K.Keeper.stops c.self.inside.keeper) _ c.args.entry.row
    (entries_of c.self.inside.book.entries.items) (entry_of c.args.entry) c.self.invariant.keeping
    (next_inside _ _ (entry_of c.args.entry) c.self.view_is c.requires.next)
    refl c.in-Err-NoMemory.ensures.stops)

pub add-requires-clause-next : goal.add-requires-clause-next
add-requires-clause-next g c =
    subst (λ (es : List plain.Entry). IsNext es (entry_of c.args.entry)) (sym c.take_room.ensures.entries)
    (next_inside _ _ (entry_of c.args.entry) c.self.view_is c.requires.next)

pub invariant_of-self-2 : goal.invariant_of-self-2
invariant_of-self-2 g c =
    record {
      book = c.add.ensures.book;
      keeping = keeping_added c.in-Ok-append.field-0 (entries_of c.self.inside.book.entries.items) _ (g.K.Keeper.told c.self.inside.keeper) _ c.args.entry
          (entries_more _ _ c.args.entry _ c.add.ensures.entries c.take_room.ensures.entries) c.self.invariant.keeping c.in-Ok-append.ensures.append;
    }

pub returns-clause-rows : goal.returns-clause-rows
returns-clause-rows g c =
    (keeping_added c.in-Ok-append.field-0 (entries_of c.self.inside.book.entries.items) _ (g.K.Keeper.told c.self.inside.keeper) _ c.args.entry
    (entries_more _ _ c.args.entry _ c.add.ensures.entries c.take_room.ensures.entries) c.self.invariant.keeping c.in-Ok-append.ensures.append).rows

pub returns-clause-stops : goal.returns-clause-stops
returns-clause-stops g c =
    rw (← c.self.view_is)
    (stop_append (g.K.Keeper.told c.self.inside.keeper) (g.K.Keeper.stops c.self.inside.keeper) _ c.args.entry.row
    (entries_of c.self.inside.book.entries.items) (entry_of c.args.entry) c.self.invariant.keeping
    (next_inside _ _ (entry_of c.args.entry) c.self.view_is c.requires.next)
    refl c.in-Ok-append.ensures.stops)
