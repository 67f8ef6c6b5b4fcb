use Rattle.theory_session.proofs.AcceptedLaws.{desk_once, never_bad, one_bad}
use Rattle.theory_session.proofs.laws_desk.rows_determine_the_desk.Goals as goal

pub returns-clause-desk : goal.returns-clause-desk
returns-clause-desk c = desk_once c.a_text_is_spelled_once_or_fails_once.ensures.lines c.an_edit_text_is_spelled_once_or_fails_once.ensures.edits

pub returns-clause-never_both : goal.returns-clause-never_both
returns-clause-never_both c = never_bad c.a_text_is_spelled_once_or_fails_once.ensures.lines c.an_edit_text_is_spelled_once_or_fails_once.ensures.edits

pub returns-clause-bad : goal.returns-clause-bad
returns-clause-bad c = one_bad c.a_text_is_spelled_once_or_fails_once.ensures.lines c.an_edit_text_is_spelled_once_or_fails_once.ensures.edits
