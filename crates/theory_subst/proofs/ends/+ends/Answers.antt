use Rattle.std.proofs.Common.{refl, arith}
use Rattle.theory_subst.specs.Points.{points_of}
use Rattle.theory_subst.proofs.EndLemmas.{adds_next, adds_none}
use Rattle.theory_subst.proofs.ends.+ends.Goals as goal

pub add_ends_of_all-loop-member-init : goal.add_ends_of_all-loop-member-init
add_ends_of_all-loop-member-init t c = record { linear = c.requires.linear; ends = refl }

pub add_ends_of_all-loop-member-preserved : goal.add_ends_of_all-loop-member-preserved
add_ends_of_all-loop-member-preserved t c =
    adds_next c.args.x c.loop-member.member-index c.args.members.now c.member-item.result (points_of c.args.points.now.items)
    (points_of c.loop-member.points.items)
    (points_of c.add_ends.new.points.items) c.loop-member-test.true c.member-item.is c.loop-member.invariant c.in_ok-add_ends.ensures

pub add_ends_of_all-returns : goal.add_ends_of_all-returns
add_ends_of_all-returns t c =
    adds_none c.args.x c.loop-member.member-index c.args.members.now (points_of c.args.points.now.items) (points_of c.loop-member.points.items) (omega arith)
    c.loop-member.invariant
