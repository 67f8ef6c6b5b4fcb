use Rattle.theory_meaning.proofs.AnswerLaws.{one_verdict}
use Rattle.theory_meaning.proofs.laws_answers.one_verdict_is_right.Goals as goal

pub returns : goal.returns
returns c = one_verdict
