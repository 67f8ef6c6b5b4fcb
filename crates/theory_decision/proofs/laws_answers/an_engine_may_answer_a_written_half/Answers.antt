use Rattle.theory_decision.proofs.EngineAnswers.{engine_may_answer}
use Rattle.theory_decision.proofs.laws_answers.an_engine_may_answer_a_written_half.Goals as goal

pub returns : goal.returns
returns c = engine_may_answer
