use Rattle.std.proofs.Common.{◌≡◌, ◌++◌, take, drop}
use Rattle.theory_witness.specs.Roots.{inserted}
use Rattle.theory_witness.proofs.roots.place_of.Given as goal

abbrev pub invariant-loop-k : goal.invariant-loop-k
invariant-loop-k l = inserted l.root l.roots ≡ take l.k l.roots ++ inserted l.root (drop l.k l.roots)
