use Rattle.std.proofs.Common.{◌≡◌, ◌++◌, drop}
use Rattle.theory_meaning.specs.Declarations.{listed_in}
use Rattle.theory_syntax.specs.Plain.{lines_of}
use Rattle.theory_model.proofs.listing.listed.Given as goal

abbrev pub invariant-loop-numbered : goal.invariant-loop-numbered
invariant-loop-numbered l =
    l.names ++ listed_in l.shifted (lines_of (drop l.numbered-index l.lines)) ≡ listed_in l.shifted (lines_of l.lines)
