use Rattle.std.proofs.Common.{◌≡◌, ◌++◌, drop}
use Rattle.theory_meaning.specs.Edit.{lines_alone}
use Rattle.theory_meaning.specs.Question.{assumptions_of}
use Rattle.theory_syntax.specs.Plain.{claims_of, lines_of}
use Rattle.theory_statics.proofs.before.add_assumptions.Given as goal

abbrev pub invariant-loop-numbered : goal.invariant-loop-numbered
invariant-loop-numbered l =
    claims_of l.all.items ++ assumptions_of (lines_alone (lines_of (drop l.numbered-index l.lines)))
    ≡ claims_of l.fn.all.items ++ assumptions_of (lines_alone (lines_of l.lines))
