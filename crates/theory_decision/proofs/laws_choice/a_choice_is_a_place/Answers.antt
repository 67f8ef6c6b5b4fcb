use Rattle.theory_decision.proofs.ChoicePlaces.{choice_within}
use Rattle.theory_decision.proofs.laws_choice.a_choice_is_a_place.Goals as goal

pub returns : goal.returns
returns c = choice_within
