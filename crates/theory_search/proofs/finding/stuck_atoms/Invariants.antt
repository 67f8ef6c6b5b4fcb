use Rattle.std.proofs.Common.{◌≡◌, map}
use Rattle.theory_search.specs.Atoms.{rows_of}
use Rattle.theory_search.specs.Outcomes.{stuck_of, stuck_below}
use Rattle.theory_search.proofs.finding.stuck_atoms.Given as goal

abbrev pub invariant-loop-x : goal.invariant-loop-x
invariant-loop-x l = map stuck_of l.all.items ≡ stuck_below l.keep (rows_of l.atoms) l.x
