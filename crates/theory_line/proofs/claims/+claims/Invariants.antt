use Rattle.std.proofs.Common.{◌+◌, ◌-◌, ◌*◌, length, reverse}
use Rattle.theory_syntax.specs.Plain.{claims_of}
use Rattle.theory_line.proofs.ChainLaws.{AreConjuncts, AreDisjuncts, AreParts}
use Rattle.theory_line.proofs.claims.+claims.Given as goal

abbrev pub decreases-bracketed : goal.decreases-bracketed
decreases-bracketed l = 10 * (33 - l.depth) + 6

abbrev pub decreases-claim : goal.decreases-claim
decreases-claim l = 10 * (33 - l.depth) + 5

abbrev pub decreases-side : goal.decreases-side
decreases-side l = 10 * (33 - l.depth) + 4

abbrev pub decreases-premise : goal.decreases-premise
decreases-premise l = 10 * (33 - l.depth) + 3

abbrev pub decreases-disjunct : goal.decreases-disjunct
decreases-disjunct l = 10 * (33 - l.depth) + 2

abbrev pub decreases-conjunct : goal.decreases-conjunct
decreases-conjunct l = 10 * (33 - l.depth) + 1

abbrev pub invariant-disjunct-loop-behind : goal.invariant-disjunct-loop-behind
invariant-disjunct-loop-behind l = AreConjuncts l.depth l.tokens l.rest (claims_of l.members.items)

abbrev pub decreases-disjunct-loop-behind : goal.decreases-disjunct-loop-behind
decreases-disjunct-loop-behind l = length l.rest

abbrev pub invariant-premise-loop-behind : goal.invariant-premise-loop-behind
invariant-premise-loop-behind l = AreDisjuncts l.depth l.tokens l.rest (claims_of l.members.items)

abbrev pub decreases-premise-loop-behind : goal.decreases-premise-loop-behind
decreases-premise-loop-behind l = length l.rest

abbrev pub invariant-side-loop-behind : goal.invariant-side-loop-behind
invariant-side-loop-behind l = AreParts l.depth l.tokens l.rest (reverse (claims_of l.parts.items))

abbrev pub decreases-side-loop-behind : goal.decreases-side-loop-behind
decreases-side-loop-behind l = length l.rest
