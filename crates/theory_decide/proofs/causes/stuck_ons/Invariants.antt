use Rattle.std.proofs.Common.{◌≡◌, map, take}
use Rattle.theory_decision.specs.Answers.{stuck_name}
use Rattle.theory_search.specs.Outcomes as found
use Rattle.theory_verdict.specs.Plain.{stuck_of}
use Rattle.theory_decide.proofs.causes.stuck_ons.Given as goal

abbrev pub invariant-loop-atom : goal.invariant-loop-atom
invariant-loop-atom l = map stuck_of l.all.items ≡ map (stuck_name l.symbols) (map found.stuck_of (take l.atom-index l.atoms))
