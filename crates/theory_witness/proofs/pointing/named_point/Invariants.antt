use Rattle.std.proofs.Common.{◌≡◌, ◌++◌}
use Rattle.theory_decision.specs.Answers.{named}
use Rattle.theory_witness.proofs.PointLemmas.{named_from}
use Rattle.theory_witness.proofs.pointing.named_point.Given as goal

abbrev pub invariant-loop-k : goal.invariant-loop-k
invariant-loop-k l = l.entries.items ++ named_from l.k l.names l.values ≡ named l.names l.values
