use Rattle.theory_meaning.proofs.AnswerLaws.{right_answer}
use Rattle.theory_meaning.proofs.laws_answers.right_halves_give_the_right_answer.Goals as goal

pub returns : goal.returns
returns c = right_answer
