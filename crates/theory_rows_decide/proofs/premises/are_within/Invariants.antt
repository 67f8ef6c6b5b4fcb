use Rattle.std.proofs.Common.{drop}
use Rattle.theory_search.specs.Asked.{AreWithin}
use Rattle.theory_rows_decide.proofs.premises.are_within.Given as goal

abbrev pub invariant-loop-candidate : goal.invariant-loop-candidate
invariant-loop-candidate l = AreWithin (drop l.candidate-index l.candidates) → AreWithin l.candidates
