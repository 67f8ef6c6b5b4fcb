use Rattle.std.proofs.Common.{◌≡◌, drop}
use Rattle.theory_meaning.specs.Point.{value_at}
use Rattle.theory_meaning.specs.Slow.{point_of}
use Rattle.theory_meaning.proofs.slow.values.value_among.Given as goal

abbrev pub invariant-loop-entry : goal.invariant-loop-entry
invariant-loop-entry l = value_at (point_of (drop l.entry-index l.point)) l.name ≡ value_at (point_of l.point) l.name
