use Rattle.std.proofs.Common.{drop}
use Rattle.theory_syntax.specs.Plain.{members_of}
use Rattle.theory_syntax.proofs.DivisorLemmas.{IsLeftDefined}
use Rattle.theory_syntax.proofs.meeting.+claim_is_defined.Given as goal

abbrev pub invariant-all_are_defined-loop-claim : goal.invariant-all_are_defined-loop-claim
invariant-all_are_defined-loop-claim l =
    IsLeftDefined l.all (members_of (drop l.claim-index l.claims)) (members_of l.claims) l.point
