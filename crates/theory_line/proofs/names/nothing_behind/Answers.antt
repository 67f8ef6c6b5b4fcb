use Rattle.theory_line.proofs.LineReading.{left_over, not_empty}
use Rattle.theory_line.proofs.names.nothing_behind.Goals as goal

pub returns-else-is_empty : goal.returns-else-is_empty
returns-else-is_empty c =
    left_over c.args.tokens.now c.unexpected.result c.unexpected.ensures (not_empty c.args.tokens.now c.if-is_empty.ensures)
