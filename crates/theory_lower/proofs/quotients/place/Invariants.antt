use Rattle.std.proofs.Common.{◌≡◌, ◌+◌, drop}
use Rattle.theory_lowering.specs.Lowered.{place_of}
use Rattle.theory_lower.proofs.quotients.place.Given as goal

abbrev pub invariant-loop-i : goal.invariant-loop-i
invariant-loop-i l = l.i + place_of l.name (drop l.i l.names) ≡ place_of l.name l.names
