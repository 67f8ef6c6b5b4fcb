use Rattle.std.proofs.Common.{map, drop}
use Rattle.theory_syntax.specs.Plain.{claims_of}
use Rattle.theory_signs.specs.Plain.{formula_of}
use Rattle.theory_lower.proofs.LoweringLemmas.{IsReached}
use Rattle.theory_lower.proofs.lowering.+lowered.Given as goal

abbrev pub invariant-all_lowered-loop-claim : goal.invariant-all_lowered-loop-claim
invariant-all_lowered-loop-claim l =
    IsReached l.names l.stands (claims_of l.claims) (claims_of (drop l.claim-index l.claims)) (map formula_of l.all.items)
