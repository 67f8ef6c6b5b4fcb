use Rattle.std.proofs.Common.{◌≡◌, ◌+◌, drop}
use Rattle.theory_session.specs.Names.{unlisted_from, first_unlisted}
use Rattle.theory_cli.proofs.names.first_unlisted.Given as goal

abbrev pub invariant-loop-k : goal.invariant-loop-k
invariant-loop-k l = unlisted_from (l.k + 1) l.listed (drop l.k l.names) ≡ first_unlisted l.listed l.names
