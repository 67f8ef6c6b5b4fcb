use Rattle.std.proofs.Common.{◌≡◌, drop}
use Rattle.theory_decision.specs.Finding.{stuck_at}
use Rattle.theory_search.specs.Atoms.{rows_of}
use Rattle.theory_search.proofs.finding.first_curved.Given as goal

abbrev pub invariant-loop-atom : goal.invariant-loop-atom
invariant-loop-atom l = stuck_at l.x (rows_of l.atoms) ≡ stuck_at l.x (rows_of (drop l.atom-index l.atoms))
