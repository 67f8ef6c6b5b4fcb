use Rattle.std.proofs.Common.{◌≡◌, drop}
use Rattle.std.specs.List.{list_any}
use Rattle.theory_elimination.specs.TestPoint.{is_same_point}
use Rattle.theory_subst.specs.Points.{point_of, points_of}
use Rattle.theory_subst.proofs.sameness.is_among.Given as goal

abbrev pub invariant-loop-other : goal.invariant-loop-other
invariant-loop-other l =
    list_any (is_same_point (point_of l.point)) (points_of l.points)
    ≡ list_any (is_same_point (point_of l.point)) (points_of (drop l.other-index l.points))
