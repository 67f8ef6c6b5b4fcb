use Rattle.theory_signs.specs.Plain.{formula_of}
use Rattle.theory_search.proofs.CandidateLemmas.{IsListed}
use Rattle.theory_search.proofs.candidacy.listed.Given as goal

abbrev pub invariant-loop-x : goal.invariant-loop-x
invariant-loop-x l = IsListed l.keep (formula_of l.formula) l.x l.all.items
