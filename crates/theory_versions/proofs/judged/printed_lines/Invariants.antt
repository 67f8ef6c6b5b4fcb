use Rattle.std.proofs.Common.{◌≡◌, ◌++◌, drop}
use Rattle.theory_meaning.specs.Edit.{lines_alone}
use Rattle.theory_grammar.specs.Printed.{text_of}
use Rattle.theory_syntax.specs.Plain.{lines_of}
use Rattle.theory_versions.proofs.judged.printed_lines.Given as goal

-- the text so far and that of the lines that are left
abbrev pub invariant-loop-numbered : goal.invariant-loop-numbered
invariant-loop-numbered l =
    l.text ++ text_of (lines_alone (lines_of (drop l.numbered-index l.lines))) ≡ text_of (lines_alone (lines_of l.lines))
