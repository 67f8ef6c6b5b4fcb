use Rattle.theory_session.proofs.CheckLaws.{check_run}
use Rattle.theory_session.proofs.laws_rows.a_check_is_a_run.Goals as goal

pub returns : goal.returns
returns g c = check_run g.D.Meant.meanings
