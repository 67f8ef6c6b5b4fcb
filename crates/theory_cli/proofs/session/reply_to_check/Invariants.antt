use Rattle.theory_decision.specs.Engine.{engine}
use Rattle.theory_cli.specs.Plain.{replies_of}
use Rattle.theory_cli.proofs.SessionLemmas.{GoneOn}
use Rattle.theory_cli.proofs.session.reply_to_check.Given as goal

abbrev pub invariant-loop-numbered : goal.invariant-loop-numbered
invariant-loop-numbered g l =
    GoneOn engine l.model l.on l.policy.kind l.numbered-index (replies_of l.replies) (g.O.Sink.told l.fn.out) (g.O.Sink.told l.out)
