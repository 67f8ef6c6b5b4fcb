use Rattle.std.proofs.Common.{◌≡◌, drop}
use Rattle.theory_decision.specs.Choice.{is_one_of}
use Rattle.theory_witness.proofs.stepping.is_given.Given as goal

abbrev pub invariant-loop-held : goal.invariant-loop-held
invariant-loop-held l = is_one_of (drop l.held-index l.given) l.x ≡ is_one_of l.given l.x
