use Rattle.std.proofs.Common.{◌≡◌, ◌+◌, drop}
use Rattle.theory_meaning.specs.Edit as edit
use Rattle.theory_meaning.specs.Edit.{lines_alone}
use Rattle.theory_syntax.specs.Plain.{lines_of, ops_of}
use Rattle.theory_model.specs.Changed.{lent_lines}
use Rattle.theory_model.proofs.changing.changed_lines.Given as goal

abbrev pub invariant-loop-k : goal.invariant-loop-k
invariant-loop-k l =
    edit.changed_lines (l.k + 1) (ops_of (drop l.k l.ops)) (lent_lines l.changed.items) ≡ edit.changed_lines 1 (ops_of l.ops) (lines_alone (lines_of l.lines))
