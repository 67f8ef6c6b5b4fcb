use Rattle.std.proofs.Common.{◌≡◌, drop}
use Rattle.theory_meaning.specs.Point.{value_at}
use Rattle.theory_points.proofs.point.value_among.Given as goal

abbrev pub invariant-loop-held : goal.invariant-loop-held
invariant-loop-held l = value_at (drop l.held-index l.entries) l.name ≡ value_at l.entries l.name
