use Rattle.std.proofs.Common.{drop}
use Rattle.theory_syntax.specs.Plain.{claims_of}
use Rattle.theory_syntax.proofs.DivisorLemmas.{IsLeftMet}
use Rattle.theory_syntax.proofs.meeting.all_stand.Given as goal

abbrev pub invariant-loop-claim : goal.invariant-loop-claim
invariant-loop-claim l = IsLeftMet l.all (claims_of (drop l.claim-index l.claims)) (claims_of l.claims) l.point
