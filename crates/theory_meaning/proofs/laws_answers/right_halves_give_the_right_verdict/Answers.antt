use Rattle.theory_meaning.proofs.AnswerLaws as law
use Rattle.theory_meaning.proofs.laws_answers.right_halves_give_the_right_verdict.Goals as goal

pub returns : goal.returns
returns c = law.right_halves_give_the_right_verdict
