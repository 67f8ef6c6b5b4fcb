use Rattle.theory_session.proofs.OneStepLaws.{some_step, one_step}
use Rattle.theory_session.proofs.laws_desk.each_command_has_one_step.Goals as goal

pub returns-clause-some : goal.returns-clause-some
returns-clause-some g c =
    let t = c.a_text_is_spelled_once_or_fails_once.ensures in
    let e = c.an_edit_text_is_spelled_once_or_fails_once.ensures in
    some_step g.D.Meant.meanings t.total t.lines t.fault t.never_both e.total e.edits e.fault e.never_both

pub returns-clause-one : goal.returns-clause-one
returns-clause-one g c =
    let t = c.a_text_is_spelled_once_or_fails_once.ensures in
    let e = c.an_edit_text_is_spelled_once_or_fails_once.ensures in
    one_step g.D.Meant.meanings t.total t.lines t.fault t.never_both e.total e.edits e.fault e.never_both
