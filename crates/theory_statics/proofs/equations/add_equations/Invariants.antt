use Rattle.std.proofs.Common.{◌≡◌, ◌++◌, map, drop}
use Rattle.theory_meaning.specs.Edit.{lines_alone}
use Rattle.theory_derivative.specs.Differentiated.{differentiated_by}
use Rattle.theory_syntax.specs.Plain.{lines_of}
use Rattle.theory_statics.specs.Plain.{differentiated_of}
use Rattle.theory_statics.proofs.equations.add_equations.Given as goal

abbrev pub invariant-loop-numbered : goal.invariant-loop-numbered
invariant-loop-numbered l =
    map differentiated_of l.all.items ++ differentiated_by (lines_of l.lines) l.shift (lines_alone (lines_of (drop l.numbered-index l.lines)))
    ≡ map differentiated_of l.fn.all.items ++ differentiated_by (lines_of l.lines) l.shift (lines_alone (lines_of l.lines))
