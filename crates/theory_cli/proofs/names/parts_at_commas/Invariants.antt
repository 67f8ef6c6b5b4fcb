use Rattle.std.proofs.Common.{◌≡◌, map}
use Rattle.theory_cli.proofs.names.parts_at_commas.Given as goal

abbrev pub invariant-loop-part : goal.invariant-loop-part
invariant-loop-part l = l.names ≡ map (λ part. part.now) l.yielded
