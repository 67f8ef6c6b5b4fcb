use Rattle.std.proofs.Common.{◌≡◌, ◌++◌, drop}
use Rattle.theory_syntax.specs.Plain.{claims_of}
use Rattle.theory_syntax.proofs.+copy.Given as goal

abbrev pub invariant-copying::copy_all-loop-claim : goal.invariant-copying::copy_all-loop-claim
invariant-copying::copy_all-loop-claim l =
    claims_of l.copies.items ++ claims_of (drop l.claim-index l.claims) ≡ claims_of l.claims
