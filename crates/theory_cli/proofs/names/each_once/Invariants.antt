use Rattle.std.proofs.Common.{◌≡◌, drop}
use Rattle.theory_session.specs.Names.{each_once}
use Rattle.theory_cli.proofs.OnceLemmas.{joined_once}
use Rattle.theory_cli.proofs.names.each_once.Given as goal

abbrev pub invariant-loop-name : goal.invariant-loop-name
invariant-loop-name l = joined_once l.once (drop l.name-index l.names) ≡ each_once l.names
