use Rattle.theory_decision.proofs.EngineAnswers.{engine_may_answer_region}
use Rattle.theory_decision.proofs.laws_answers.an_engine_may_answer_a_written_region.Goals as goal

pub returns : goal.returns
returns c = engine_may_answer_region
