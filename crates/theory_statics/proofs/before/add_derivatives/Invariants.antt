use Rattle.std.proofs.Common.{◌≡◌, ◌++◌, map, drop}
use Rattle.theory_meaning.specs.Edit.{lines_alone}
use Rattle.theory_derivative.specs.Differentiated.{differentiated_by}
use Rattle.theory_derivative.specs.Sentence.{equal_derivatives}
use Rattle.theory_syntax.specs.Plain.{claims_of, lines_of}
use Rattle.theory_statics.proofs.before.add_derivatives.Given as goal

abbrev pub invariant-loop-numbered : goal.invariant-loop-numbered
invariant-loop-numbered l =
    claims_of l.all.items ++ map equal_derivatives (differentiated_by (lines_of l.lines) l.shift (lines_alone (lines_of (drop l.numbered-index l.lines))))
    ≡ claims_of l.fn.all.items ++ map equal_derivatives (differentiated_by (lines_of l.lines) l.shift (lines_alone (lines_of l.lines)))
