use Rattle.std.proofs.Common.{◌≡◌, ◌++◌, take}
use Rattle.theory_witness.proofs.candidates.add_roots.Given as goal

abbrev pub invariant-loop-root : goal.invariant-loop-root
invariant-loop-root l = l.tried.items ≡ l.initial.tried.items ++ take l.root-index l.roots
