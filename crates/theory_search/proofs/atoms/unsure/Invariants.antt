use Rattle.std.proofs.Common.{◌≡◌, ◌+◌, ◌≤◌, drop}
use Rattle.std.specs.Prelude.{count_by}
use Rattle.theory_decision.specs.Choice.{has_unsure_slope}
use Rattle.theory_search.specs.Atoms.{rows_of, IsStraight}
use Rattle.theory_search.proofs.atoms.unsure.Given as goal

abbrev pub invariant-loop-atom : goal.invariant-loop-atom
invariant-loop-atom l = l.count + count_by (λ a. has_unsure_slope l.x a.0) (rows_of (drop l.atom-index l.atoms))
    ≡ count_by (λ a. has_unsure_slope l.x a.0) (rows_of l.atoms)
    × (l.count ≤ l.atom-index) × IsStraight l.x (rows_of (drop l.atom-index l.atoms))
