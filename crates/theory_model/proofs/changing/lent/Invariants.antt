use Rattle.std.proofs.Common.{◌≡◌, ◌++◌, drop}
use Rattle.theory_meaning.specs.Edit.{lines_alone}
use Rattle.theory_syntax.specs.Plain.{lines_of}
use Rattle.theory_model.specs.Changed.{lent_lines}
use Rattle.theory_model.proofs.changing.lent.Given as goal

abbrev pub invariant-loop-numbered : goal.invariant-loop-numbered
invariant-loop-numbered l =
    lent_lines l.all.items ++ lines_alone (lines_of (drop l.numbered-index l.lines)) ≡ lines_alone (lines_of l.lines)
