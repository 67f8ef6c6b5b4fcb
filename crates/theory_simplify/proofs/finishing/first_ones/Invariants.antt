use Rattle.std.proofs.Common.{◌≡◌, ◌++◌, map, []}
use Rattle.theory_elimination.specs.Simplified.{first_ones}
use Rattle.theory_simplify.specs.Drafts.{draft_of}
use Rattle.theory_simplify.specs.Hashes.{hash_of_formula}
use Rattle.theory_simplify.proofs.finishing.first_ones.Given as goal

abbrev pub invariant-loop-draft : goal.invariant-loop-draft
invariant-loop-draft l = record {
  written : map draft_of l.kept.items ++ first_ones (map draft_of l.kept.items) (map draft_of l.draft-iterator.rest.items)
      ≡ first_ones [] (map draft_of l.fn.drafts.items);
  hashed : l.hashes.items ≡ map hash_of_formula (map draft_of l.kept.items);
}
