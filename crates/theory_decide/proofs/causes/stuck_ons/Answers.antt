use Rattle.theory_decide.proofs.CauseLemmas.{one_is_free}
use Rattle.theory_decide.proofs.causes.stuck_ons.Goals as goal

pub stuck_on-requires : goal.stuck_on-requires
stuck_on-requires c = λ y l. one_is_free y c.args.atoms.now c.loop-atom.atom-index c.atom-item.result c.loop-atom-test.true c.atom-item.is (c.requires y l)
