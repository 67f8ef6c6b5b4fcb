use Rattle.std.proofs.Common.{◌≡◌, ◌+◌, drop, option_map}
use Rattle.theory_simplify.specs.Parts.{held_at, parts_of}
use Rattle.theory_simplify.proofs.gathering.held_at.Given as goal

abbrev pub invariant-loop-place : goal.invariant-loop-place
invariant-loop-place l =
    option_map (λ h. (l.place + h.0, h.1)) (held_at l.atom.poly (parts_of (drop l.place l.members))) ≡ held_at l.atom.poly (parts_of l.members)
