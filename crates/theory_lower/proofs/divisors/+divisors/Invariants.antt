use Rattle.std.proofs.Common.{map, drop}
use Rattle.theory_syntax.specs.Plain.{claims_of}
use Rattle.theory_signs.specs.Plain.{formula_of}
use Rattle.theory_lower.proofs.DivisorLemmas.{IsReachedBy}
use Rattle.theory_lower.proofs.divisors.+divisors.Given as goal

abbrev pub invariant-add_of_claims-loop-claim : goal.invariant-add_of_claims-loop-claim
invariant-add_of_claims-loop-claim l =
    IsReachedBy l.names (claims_of l.claims) (claims_of (drop l.claim-index l.claims)) (map formula_of l.fn.members.items) (map formula_of l.members.items)
