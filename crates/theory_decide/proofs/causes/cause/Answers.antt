use Rattle.theory_decide.proofs.CauseLemmas.{stuck_are_free}
use Rattle.theory_decide.proofs.causes.cause.Goals as goal

pub stuck_ons-requires : goal.stuck_ons-requires
stuck_ons-requires c = λ y l. stuck_are_free y c.args.failure.now c.in-Stuck.atoms c.deref.result.now c.in-Stuck.is c.deref.ensures.value (c.requires y l)
