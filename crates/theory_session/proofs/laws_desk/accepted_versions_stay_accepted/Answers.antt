use Rattle.theory_session.proofs.StepLaws.{step_grows, run_keeps, refusal_adds_nothing}
use Rattle.theory_session.proofs.laws_desk.accepted_versions_stay_accepted.Goals as goal

pub returns-clause-step : goal.returns-clause-step
returns-clause-step g c = step_grows g.D.Meant.meanings

pub returns-clause-run : goal.returns-clause-run
returns-clause-run g c = run_keeps g.D.Meant.meanings

pub returns-clause-refused : goal.returns-clause-refused
returns-clause-refused g c = refusal_adds_nothing g.D.Meant.meanings
