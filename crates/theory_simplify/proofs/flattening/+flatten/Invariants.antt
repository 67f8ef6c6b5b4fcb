use Rattle.std.proofs.Common.{◌≡◌, ◌≤◌, ◌++◌, map}
use Rattle.theory_formula.specs.Formula.{formulas_from}
use Rattle.theory_simplify.specs.Drafts.{draft_of}
use Rattle.theory_simplify.specs.Parts.{parts_of, all_flat_parts}
use Rattle.theory_simplify.proofs.Weights.{parts_weight}
use Rattle.theory_simplify.proofs.flattening.+flatten.Given as goal

abbrev pub decreases-flatten : goal.decreases-flatten
decreases-flatten l = parts_weight (parts_of l.members.items)

abbrev pub invariant-loop-member : goal.invariant-loop-member
invariant-loop-member l = record {
  written : parts_of l.flat.items ++ all_flat_parts l.all (formulas_from (map draft_of l.member-iterator.rest.items))
      ≡ parts_of l.fn.flat.items ++ all_flat_parts l.all (formulas_from (map draft_of l.fn.members.items));
  lighter : parts_weight (parts_of l.member-iterator.rest.items) ≤ parts_weight (parts_of l.fn.members.items);
}
