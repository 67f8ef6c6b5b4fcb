use Rattle.std.proofs.Common.{arith}
use Rattle.theory_lower.proofs.WrittenLemmas.{both_is_list}
use Rattle.theory_lower.proofs.claims.both.Goals as goal

pub returns-then-len-gt1 : goal.returns-then-len-gt1
returns-then-len-gt1 c = both_is_list c.args.members (omega arith)
