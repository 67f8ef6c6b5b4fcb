use Rattle.std.proofs.Common.{◌≡◌, drop}
use Rattle.theory_derivative.specs.Sentence.{claim_in}
use Rattle.theory_syntax.specs.Plain.{lines_of}
use Rattle.theory_statics.proofs.sentence.claim_under.Given as goal

abbrev pub invariant-loop-numbered : goal.invariant-loop-numbered
invariant-loop-numbered l =
    claim_in (lines_of l.lines) l.label ≡ claim_in (lines_of (drop l.numbered-index l.lines)) l.label
