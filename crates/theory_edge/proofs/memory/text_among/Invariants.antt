use Rattle.std.proofs.Common.{◌≡◌, map, drop}
use Rattle.theory_edge.specs.Memory.{entry_of, text_under}
use Rattle.theory_edge.proofs.memory.text_among.Given as goal

-- no entry so far has the name
abbrev pub invariant-loop-entry : goal.invariant-loop-entry
invariant-loop-entry l =
    text_under (map entry_of (drop l.entry-index l.texts)) l.name ≡ text_under (map entry_of l.texts) l.name
