use Rattle.theory_session.proofs.ConditionLaws.{right_region}
use Rattle.theory_session.proofs.laws.conditions_of_sentences_are_right.Goals as goal

pub returns : goal.returns
returns c = right_region
