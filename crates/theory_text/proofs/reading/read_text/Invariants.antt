use Rattle.std.proofs.Common.{length}
use Rattle.theory_grammar.specs.Spelled.{IsLine}
use Rattle.theory_grammar.specs.Texts.{with_number}
use Rattle.theory_syntax.specs.Plain.{lines_of}
use Rattle.theory_text.proofs.TextLemmas.{IsReadTo}
use Rattle.theory_text.proofs.reading.read_text.Given as goal

abbrev pub invariant-loop-rest : goal.invariant-loop-rest
invariant-loop-rest l = IsReadTo IsLine with_number l.number (lines_of l.lines.items) l.rest l.bytes

abbrev pub decreases-loop-rest : goal.decreases-loop-rest
decreases-loop-rest l = length l.rest
