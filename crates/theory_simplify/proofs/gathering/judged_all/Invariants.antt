use Rattle.std.proofs.Common.{◌≡◌, ◌++◌, map}
use Rattle.theory_simplify.specs.Parts.{facts_of, parts_of}
use Rattle.theory_simplify.specs.Judged.{by_source}
use Rattle.theory_simplify.proofs.gathering.judged_all.Given as goal

abbrev pub invariant-loop-member : goal.invariant-loop-member
invariant-loop-member l =
    parts_of l.all.items ++ map (by_source l.source (facts_of l.facts)) (parts_of l.member-iterator.rest.items)
    ≡ map (by_source l.source (facts_of l.facts)) (parts_of l.fn.members.items)
