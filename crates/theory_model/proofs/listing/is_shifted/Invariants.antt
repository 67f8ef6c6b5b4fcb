use Rattle.std.proofs.Common.{◌≡◌, drop}
use Rattle.theory_meaning.specs.Declarations as declarations
use Rattle.theory_syntax.specs.Plain.{lines_of}
use Rattle.theory_model.proofs.listing.is_shifted.Given as goal

abbrev pub invariant-loop-numbered : goal.invariant-loop-numbered
invariant-loop-numbered l =
    declarations.is_shifted l.label (lines_of l.lines) ≡ declarations.is_shifted l.label (lines_of (drop l.numbered-index l.lines))
