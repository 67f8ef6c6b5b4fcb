use Rattle.std.proofs.Common.{drop}
use Rattle.theory_witness.proofs.RestrictionLemmas.{IsHeld}
use Rattle.theory_witness.proofs.restriction.at_values.Given as goal

abbrev pub invariant-loop-symbol : goal.invariant-loop-symbol
invariant-loop-symbol l = IsHeld l.values (drop l.symbol-index l.values) l.poly l.held
