use Rattle.theory_derivative.proofs.SentenceLaws.{sentences_give_the_right_answer}
use Rattle.theory_derivative.proofs.laws.answers_of_sentences_are_right.Goals as goal

pub returns : goal.returns
returns c = sentences_give_the_right_answer
