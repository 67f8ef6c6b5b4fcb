use Rattle.std.proofs.Common.{◌≡◌, drop}
use Rattle.theory_meaning.specs.Divisors.{divisors_of_claims}
use Rattle.theory_syntax.specs.Plain.{members_of}
use Rattle.theory_syntax.proofs.dividing.+claim_divides.Given as goal

abbrev pub invariant-some_divides-loop-claim : goal.invariant-some_divides-loop-claim
invariant-some_divides-loop-claim l =
    divisors_of_claims (members_of (drop l.claim-index l.claims)) ≡ divisors_of_claims (members_of l.claims)
