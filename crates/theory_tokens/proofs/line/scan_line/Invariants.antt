use Rattle.std.proofs.Common.{length}
use Rattle.theory_tokens.proofs.LineLemmas.{IsReadTo}
use Rattle.theory_tokens.proofs.line.scan_line.Given as goal

abbrev pub invariant-loop-token : goal.invariant-loop-token
invariant-loop-token l = IsReadTo l.tokens.items l.columns.items l.rest l.line

abbrev pub decreases-loop-token : goal.decreases-loop-token
decreases-loop-token l = length l.rest
