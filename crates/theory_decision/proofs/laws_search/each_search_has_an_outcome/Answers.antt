use Rattle.theory_decision.proofs.SomeRun.{search_exists, leaves_exist}
use Rattle.theory_decision.proofs.laws_search.each_search_has_an_outcome.Goals as goal

pub returns-clause-search : goal.returns-clause-search
returns-clause-search c = search_exists

pub returns-clause-leaves : goal.returns-clause-leaves
returns-clause-leaves c = leaves_exist
