use Rattle.std.proofs.Common.{◌≡◌, ◌+◌, ◌*◌, ◌≤◌, ◌++◌}
use Rattle.theory_elimination.specs.Simplified.{members_under}
use Rattle.theory_simplify.specs.Parts.{facts_of, part_of, parts_of, waiting}
use Rattle.theory_simplify.specs.Judged.{judging_of}
use Rattle.theory_simplify.proofs.Weights.{part_weight, parts_weight}
use Rattle.theory_simplify.proofs.simplification.+simplified.Given as goal

abbrev pub decreases-simplified_member : goal.decreases-simplified_member
decreases-simplified_member l = 3 * part_weight (part_of l.member)

abbrev pub decreases-simplified_list : goal.decreases-simplified_list
decreases-simplified_list l = 3 * parts_weight (parts_of l.members.items) + 2

abbrev pub decreases-members_under : goal.decreases-members_under
decreases-members_under l = 3 * parts_weight (parts_of l.members.items) + 1

abbrev pub invariant-members_under-loop-member : goal.invariant-members_under-loop-member
invariant-members_under-loop-member l = record {
  written : parts_of l.simple.items ++ members_under l.all (facts_of l.facts) (waiting (judging_of l.judgement) (parts_of l.member-iterator.rest.items))
      ≡ members_under l.all (facts_of l.facts) (waiting (judging_of l.judgement) (parts_of l.fn.members.items));
  lighter : parts_weight (parts_of l.member-iterator.rest.items) ≤ parts_weight (parts_of l.fn.members.items);
}
