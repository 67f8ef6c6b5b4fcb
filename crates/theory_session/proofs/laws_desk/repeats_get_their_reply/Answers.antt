use Rattle.theory_session.proofs.RepeatLaws.{repeats}
use Rattle.theory_session.proofs.laws_desk.repeats_get_their_reply.Goals as goal

pub returns : goal.returns
returns g c =
    repeats g.D.Meant.meanings c.a_text_is_spelled_once_or_fails_once.ensures.lines c.a_text_is_spelled_once_or_fails_once.ensures.never_both
