use Rattle.std.proofs.Common.{◌≡◌, ◌&&◌, ◌||◌, drop}
use Rattle.theory_meaning.specs.Truth.{all_of, some_of}
use Rattle.theory_meaning.specs.Slow.{point_of, claims_of}
use Rattle.theory_meaning.proofs.slow.truths.+truth.Given as goal

abbrev pub invariant-all_true-loop-claim : goal.invariant-all_true-loop-claim
invariant-all_true-loop-claim l =
    (l.all && all_of (claims_of (drop l.claim-index l.claims)) (point_of l.point)) ≡ all_of (claims_of l.claims) (point_of l.point)

abbrev pub invariant-some_true-loop-claim : goal.invariant-some_true-loop-claim
invariant-some_true-loop-claim l =
    (l.some || some_of (claims_of (drop l.claim-index l.claims)) (point_of l.point)) ≡ some_of (claims_of l.claims) (point_of l.point)
