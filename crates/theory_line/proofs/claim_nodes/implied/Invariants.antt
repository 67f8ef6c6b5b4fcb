use Rattle.std.proofs.Common.{◌≡◌, length, reverse}
use Rattle.theory_grammar.specs.Machine.{implied}
use Rattle.theory_syntax.specs.Plain.{claim_of, claims_of}
use Rattle.theory_line.proofs.claim_nodes.implied.Given as goal

abbrev pub invariant-loop-premise : goal.invariant-loop-premise
invariant-loop-premise l =
    implied (reverse (claims_of l.premises.items)) (claim_of l.all) ≡ implied (reverse (claims_of l.fn.premises.items)) (claim_of l.fn.conclusion)

abbrev pub decreases-loop-premise : goal.decreases-loop-premise
decreases-loop-premise l = length l.premises.items
