use Rattle.std.proofs.Common.{◌≡◌, drop}
use Rattle.std.specs.List.{fold}
use Rattle.std.specs.Hash.FoldHasher as folding
use Rattle.theory_poly.specs.Hashes.{with_term}
use Rattle.theory_poly.proofs.hashing.hash_of_terms.Given as goal

abbrev pub invariant-loop-term : goal.invariant-loop-term
invariant-loop-term l = fold with_term l.hasher (drop l.term-index l.terms) ≡ fold with_term folding.initial l.terms
