use Rattle.std.proofs.Common.{◌≡◌, ◌++◌, drop, map}
use Rattle.theory_verdict.specs.Plain.{stuck_of}
use Rattle.theory_session.specs.Printed.{further_stuck}
use Rattle.theory_cli.proofs.causes.add_further_stuck.Given as goal

abbrev pub invariant-loop-on : goal.invariant-loop-on
invariant-loop-on l = l.text ++ further_stuck (map stuck_of (drop l.on-index l.ons)) ≡ l.initial.text ++ further_stuck (map stuck_of l.ons)
