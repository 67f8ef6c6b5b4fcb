use Rattle.theory_derivative.proofs.SentenceLaws.{examples_meet_their_sentence, counters_meet_their_sentence}
use Rattle.theory_derivative.proofs.laws.sentences_ask_for_examples_and_counterexamples.Goals as goal

pub returns-clause-example : goal.returns-clause-example
returns-clause-example c = examples_meet_their_sentence

pub returns-clause-counter : goal.returns-clause-counter
returns-clause-counter c = counters_meet_their_sentence
