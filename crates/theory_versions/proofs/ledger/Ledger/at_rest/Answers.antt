use Rattle.std.proofs.Common.{◌≡◌}
use Rattle.theory_versions.specs.Entries.{entries_of}
use Rattle.theory_versions.proofs.StopLemmas.{stop_still, now_opened}
use Rattle.theory_versions.proofs.ledger.Ledger.at_rest.Goals as goal

pub returns-clause-stops : goal.returns-clause-stops
returns-clause-stops g c =
    let keeper = c.self.inside.keeper in
    rw (← c.self.view_is)
    (stop_still (g.K.Keeper.told keeper) (g.K.Keeper.stops keeper) (entries_of c.self.inside.book.entries.items)
    c.self.invariant.keeping (λ rows left. g.met.K.Keeper.rests keeper (now_opened (g.K.Keeper.told keeper) c.self.invariant.keeping.opened) rows left))
