use Rattle.theory_simplify.proofs.SameLemmas.{other_members}
use Rattle.theory_simplify.proofs.sameness.+same.Goals as goal

pub are_same-returns-then-firsts-seconds : goal.are_same-returns-then-firsts-seconds
are_same-returns-then-firsts-seconds t c = other_members c.args.firsts.now c.args.seconds.now c.if-firsts-seconds.true
