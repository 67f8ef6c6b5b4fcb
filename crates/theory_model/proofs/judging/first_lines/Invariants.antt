use Rattle.std.proofs.Common.{◌≡◌, drop}
use Rattle.theory_syntax.specs.Plain.{lines_of}
use Rattle.theory_model.specs.Checked.{first_lines_of}
use Rattle.theory_model.proofs.FaultLemmas.{firsts_with}
use Rattle.theory_model.proofs.judging.first_lines.Given as goal

abbrev pub invariant-loop-numbered : goal.invariant-loop-numbered
invariant-loop-numbered l =
    firsts_with (lines_of l.keys.lines.now) l.firsts (lines_of (drop l.numbered-index l.numbered-items)) ≡ first_lines_of (lines_of l.keys.lines.now)
