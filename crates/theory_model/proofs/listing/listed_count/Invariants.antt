use Rattle.std.proofs.Common.{◌≡◌, ◌<◌, ◌^◌, ◌+◌, length, drop}
use Rattle.theory_meaning.specs.Declarations.{listed_in}
use Rattle.theory_syntax.specs.Plain.{lines_of}
use Rattle.theory_model.specs.Counted.{counted}
use Rattle.theory_model.proofs.listing.listed_count.Given as goal

abbrev pub invariant-loop-numbered : goal.invariant-loop-numbered
invariant-loop-numbered l =
    record {
      count : counted (l.count + length (listed_in l.shifted (lines_of (drop l.numbered-index l.lines)))) ≡ counted
          (length (listed_in l.shifted (lines_of l.lines)));
      small : l.count < 2 ^ 64;
    }
