use Rattle.std.proofs.Common.{◌≡◌, ◌+◌, ◌++◌, drop}
use Rattle.theory_syntax.specs.Plain.{lines_of}
use Rattle.theory_model.specs.Changed.{lent_lines, carried_from}
use Rattle.theory_model.proofs.changing.numbered_by_place.Given as goal

abbrev pub invariant-loop-k : goal.invariant-loop-k
invariant-loop-k l =
    lines_of l.all.items ++ carried_from (l.k + 1) (lent_lines (drop l.k l.lines)) ≡ carried_from 1 (lent_lines l.lines)
