use Rattle.std.proofs.Common.{arith}
use Rattle.theory_decide.proofs.RegionLemmas.{place_within}
use Rattle.theory_decide.proofs.regions.symbol_of.Goals as goal

pub overflow_cast-result : goal.overflow_cast-result
overflow_cast-result c = let within = place_within c.args.name.now c.args.symbols.now in omega (arith, within, c.requires, c.place.ensures)
