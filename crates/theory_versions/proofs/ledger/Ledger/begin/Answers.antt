use Rattle.std.proofs.Common.{◌≡◌}
use Rattle.theory_versions.proofs.BeginLemmas.{keeper_failed, memory_wanting, no_cause}
use Rattle.theory_versions.proofs.ledger.Ledger.begin.Goals as goal

pub returns-in-Err-Failed-clause-begun : goal.returns-in-Err-Failed-clause-begun
returns-in-Err-Failed-clause-begun g c = keeper_failed (g.K.Keeper.told c.args.keeper).rows

pub returns-in-Err-NoMemory-clause-begun : goal.returns-in-Err-NoMemory-clause-begun
returns-in-Err-NoMemory-clause-begun g c = memory_wanting (g.K.Keeper.told c.args.keeper).rows

pub returns-clause-cause : goal.returns-clause-cause
returns-clause-cause g c =
    no_cause (g.K.Keeper.told c.args.keeper).faults (g.K.Keeper.told c.rows.new.self).faults c.in-Err.fault c.in-Ok.ensures.cause.later
    c.in-Err.ensures.no_keeper
