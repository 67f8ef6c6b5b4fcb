use Rattle.std.proofs.Common.{◌≡◌, drop}
use Rattle.theory_session.specs.Run.{some_open}
use Rattle.theory_cli.specs.Plain.{replies_of}
use Rattle.theory_cli.proofs.status.some_open.Given as goal

abbrev pub invariant-loop-reply : goal.invariant-loop-reply
invariant-loop-reply l = some_open (replies_of l.replies) ≡ some_open (replies_of (drop l.reply-index l.replies))
