use Rattle.std.proofs.Common.{◌≡◌, drop}
use Rattle.theory_meaning.specs.Declarations.{declared_in}
use Rattle.theory_syntax.specs.Plain.{lines_of}
use Rattle.theory_statics.proofs.declaring.declared_as.Given as goal

abbrev pub invariant-loop-numbered : goal.invariant-loop-numbered
invariant-loop-numbered l =
    declared_in (lines_of l.lines) l.name ≡ declared_in (lines_of (drop l.numbered-index l.lines)) l.name
