use Rattle.std.proofs.Common.{◌≡◌, ◌++◌, map, drop}
use Rattle.theory_meaning.specs.Edit.{lines_alone}
use Rattle.theory_derivative.specs.Differentiated.{differentiated_along, differentiated_in, parameters_of}
use Rattle.theory_syntax.specs.Plain.{lines_of}
use Rattle.theory_statics.specs.Plain.{differentiated_of}
use Rattle.theory_statics.proofs.equations.differentiated.Given as goal

abbrev pub invariant-loop-numbered : goal.invariant-loop-numbered
invariant-loop-numbered l =
    map differentiated_of l.all.items
    ++ differentiated_along (lines_of l.lines) (parameters_of (lines_alone (lines_of (drop l.numbered-index l.lines)))) ≡ differentiated_in (lines_of l.lines)
