use Rattle.theory_decision.proofs.StuckAtoms.{search_free}
use Rattle.theory_decision.proofs.laws_search.a_failure_makes_no_symbol.Goals as goal

pub returns : goal.returns
returns c = search_free
