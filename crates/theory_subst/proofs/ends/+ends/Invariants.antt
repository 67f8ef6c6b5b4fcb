use Rattle.std.proofs.Common.{drop}
use Rattle.theory_subst.specs.Points.{points_of}
use Rattle.theory_subst.proofs.EndLemmas.{AddsRest}
use Rattle.theory_subst.proofs.ends.+ends.Given as goal

abbrev pub invariant-add_ends_of_all-loop-member : goal.invariant-add_ends_of_all-loop-member
invariant-add_ends_of_all-loop-member l =
    AddsRest l.x l.members (drop l.member-index l.members) (points_of l.fn.points.items) (points_of l.points.items)
