use Rattle.theory_witness.proofs.TriedLemmas.{AddedBefore}
use Rattle.theory_witness.proofs.candidates.add_middles.Given as goal

abbrev pub invariant-loop-k : goal.invariant-loop-k
invariant-loop-k l = AddedBefore l.roots l.initial.tried.items l.tried.items l.k
