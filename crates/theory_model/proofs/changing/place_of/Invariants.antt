use Rattle.std.proofs.Common.{◌≡◌, ◌+◌, drop, option_map}
use Rattle.theory_model.specs.Changed.{lent_lines, place_of_line}
use Rattle.theory_model.proofs.changing.place_of.Given as goal

abbrev pub invariant-loop-k : goal.invariant-loop-k
invariant-loop-k l =
    place_of_line l.key (lent_lines l.lines) ≡ option_map (λ i. l.k + i) (place_of_line l.key (lent_lines (drop l.k l.lines)))
