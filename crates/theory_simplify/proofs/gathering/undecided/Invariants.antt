use Rattle.std.proofs.Common.{◌≡◌, ◌++◌, option_map}
use Rattle.theory_elimination.specs.Simplified.{undecided}
use Rattle.theory_simplify.specs.Parts.{parts_of}
use Rattle.theory_simplify.proofs.gathering.undecided.Given as goal

abbrev pub invariant-loop-member : goal.invariant-loop-member
invariant-loop-member l =
    option_map (λ qs. parts_of l.open.items ++ qs) (undecided l.all (parts_of l.member-iterator.rest.items)) ≡ undecided l.all (parts_of l.fn.members.items)
