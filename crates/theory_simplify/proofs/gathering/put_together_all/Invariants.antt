use Rattle.std.proofs.Common.{◌≡◌, []}
use Rattle.theory_elimination.specs.Simplified.{gathered_behind}
use Rattle.theory_simplify.specs.Parts.{parts_of}
use Rattle.theory_simplify.proofs.gathering.put_together_all.Given as goal

abbrev pub invariant-loop-member : goal.invariant-loop-member
invariant-loop-member l =
    gathered_behind l.all (parts_of l.done.items) (parts_of l.member-iterator.rest.items) ≡ gathered_behind l.all [] (parts_of l.fn.members.items)
