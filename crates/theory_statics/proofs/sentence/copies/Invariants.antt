use Rattle.std.proofs.Common.{◌≡◌, ◌++◌, drop}
use Rattle.theory_syntax.specs.Plain.{claims_of}
use Rattle.theory_statics.proofs.sentence.copies.Given as goal

abbrev pub invariant-loop-claim : goal.invariant-loop-claim
invariant-loop-claim l =
    claims_of l.all.items ++ claims_of (drop l.claim-index l.claims) ≡ claims_of l.claims
