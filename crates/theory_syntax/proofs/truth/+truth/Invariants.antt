use Rattle.std.proofs.Common.{drop}
use Rattle.theory_syntax.specs.Plain.{members_of}
use Rattle.theory_syntax.proofs.TruthLemmas.{IsLeftAll, IsLeftSome}
use Rattle.theory_syntax.proofs.truth.+truth.Given as goal

abbrev pub invariant-all_true-loop-claim : goal.invariant-all_true-loop-claim
invariant-all_true-loop-claim l =
    IsLeftAll l.all (members_of (drop l.claim-index l.claims)) (members_of l.claims) l.point

abbrev pub invariant-some_true-loop-claim : goal.invariant-some_true-loop-claim
invariant-some_true-loop-claim l =
    IsLeftSome l.some (members_of (drop l.claim-index l.claims)) (members_of l.claims) l.point
