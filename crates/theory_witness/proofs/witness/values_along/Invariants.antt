use Rattle.std.proofs.Common.{◌≤◌, map, drop, length}
use Rattle.theory_decision.specs.Witness.{IsWitness}
use Rattle.theory_witness.specs.Path.{step_of}
use Rattle.theory_witness.proofs.witness.values_along.Given as goal

abbrev pub decreases-loop-left : goal.decreases-loop-left
decreases-loop-left l = l.left

abbrev pub invariant-loop-left : goal.invariant-loop-left
invariant-loop-left l = record {
  within : l.left ≤ length l.path;
  so_far : IsWitness l.count (map step_of (drop l.left l.path)) l.given.items l.values.items;
}
