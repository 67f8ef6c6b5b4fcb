use Rattle.theory_decision.proofs.Findings.{chosen_is_candidate, candidate_is_linear}
use Rattle.theory_decision.proofs.ChoicePlaces.{none_chosen}
use Rattle.theory_decision.proofs.laws_choice.a_chosen_symbol_is_a_candidate.Goals as goal

pub returns-clause-chosen : goal.returns-clause-chosen
returns-clause-chosen c = chosen_is_candidate

pub returns-clause-linear : goal.returns-clause-linear
returns-clause-linear c = candidate_is_linear

pub returns-clause-none : goal.returns-clause-none
returns-clause-none c = none_chosen
