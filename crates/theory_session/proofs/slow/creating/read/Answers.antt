use Rattle.std.proofs.Common.{rules}
use Rattle.theory_session.proofs.SlowLemmas.{faulty_creation}
use Rattle.theory_session.proofs.slow.creating.read.Goals as goal

pub returns-in-Err-Fault-clause-first : goal.returns-in-Err-Fault-clause-first
returns-in-Err-Fault-clause-first g c = faulty_creation _ _ _ (search rules) c.refused.ensures
