use Rattle.std.proofs.Common.{arith}
use Rattle.theory_text.proofs.one_line.scan_short.Goals as goal

pub returns : goal.returns
returns c = record { short = omega arith; scan = c.in_ok-scan_line.ensures.reads; fit = c.in_ok-scan_line.ensures.fit }
