use Rattle.std.proofs.Common.{length}
use Rattle.theory_line.proofs.LineReading.{AreArguments}
use Rattle.theory_line.proofs.names.arguments.Given as goal

abbrev pub invariant-loop-rest : goal.invariant-loop-rest
invariant-loop-rest l = AreArguments l.tokens l.rest l.all

abbrev pub decreases-loop-rest : goal.decreases-loop-rest
decreases-loop-rest l = length l.rest
