use Rattle.std.proofs.Common.{◌≤◌, drop, length}
use Rattle.theory_meaning.specs.Point.{AreDistinct}
use Rattle.theory_rows_decide.proofs.premises.is_distinct.Given as goal

abbrev pub decreases-loop-left : goal.decreases-loop-left
decreases-loop-left l = l.left

abbrev pub invariant-loop-left : goal.invariant-loop-left
invariant-loop-left l = record {
  within : l.left ≤ length l.names;
  so_far : AreDistinct (drop l.left l.names);
}
