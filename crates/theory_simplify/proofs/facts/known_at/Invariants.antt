use Rattle.std.proofs.Common.{◌≡◌, ◌+◌, drop, option_map}
use Rattle.theory_simplify.specs.Parts.{known_at, facts_of}
use Rattle.theory_simplify.proofs.facts.known_at.Given as goal

abbrev pub invariant-loop-place : goal.invariant-loop-place
invariant-loop-place l =
    option_map (λ h. (l.place + h.0, h.1)) (known_at l.atom.poly (facts_of (drop l.place l.facts))) ≡ known_at l.atom.poly (facts_of l.facts)
