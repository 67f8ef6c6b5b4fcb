use Rattle.std.proofs.Common.{length}
use Rattle.theory_grammar.specs.Spelled.{IsOp}
use Rattle.theory_grammar.specs.Texts.{without_number}
use Rattle.theory_syntax.specs.Plain.{ops_of}
use Rattle.theory_text.proofs.TextLemmas.{IsReadTo}
use Rattle.theory_text.proofs.reading.read_ops.Given as goal

abbrev pub invariant-loop-rest : goal.invariant-loop-rest
invariant-loop-rest l = IsReadTo IsOp without_number l.number (ops_of l.ops.items) l.rest l.bytes

abbrev pub decreases-loop-rest : goal.decreases-loop-rest
decreases-loop-rest l = length l.rest
