use Rattle.std.proofs.Common.{arith}
use Rattle.theory_session.specs.WorkedRows.{ratio_entry}
use Rattle.theory_session.proofs.RowLaws.{bad_alone, ratio_is_bad, ratio_desk}
use Rattle.theory_session.proofs.laws_rows.a_row_has_one_of_two_formats.Goals as goal

pub returns-clause-first : goal.returns-clause-first
returns-clause-first c = bad_alone (ratio_entry 1).row (ratio_is_bad 1 (λ is. omega (arith, is)) c.a_text_is_spelled_once_or_fails_once.ensures.lines)

pub returns-clause-second : goal.returns-clause-second
returns-clause-second c = ratio_desk

pub returns-clause-third : goal.returns-clause-third
returns-clause-third c = bad_alone (ratio_entry 3).row (ratio_is_bad 3 (λ is. omega (arith, is)) c.a_text_is_spelled_once_or_fails_once.ensures.lines)
