use Rattle.std.proofs.Common.{◌≡◌, ◌++◌}
use Rattle.theory_simplify.specs.Parts.{parts_of}
use Rattle.theory_simplify.proofs.flattening.splice.Given as goal

abbrev pub invariant-loop-member : goal.invariant-loop-member
invariant-loop-member l =
    parts_of l.into.items ++ parts_of l.member-iterator.rest.items ≡ parts_of l.initial.into.items ++ parts_of l.initial.member-iterator.rest.items
