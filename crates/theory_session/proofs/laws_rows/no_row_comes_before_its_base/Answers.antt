use Rattle.theory_session.specs.WorkedRows.{second_row}
use Rattle.theory_session.proofs.RowLaws.{bad_alone, second_is_bad}
use Rattle.theory_session.proofs.laws_rows.no_row_comes_before_its_base.Goals as goal

pub returns : goal.returns
returns c = bad_alone second_row second_is_bad
