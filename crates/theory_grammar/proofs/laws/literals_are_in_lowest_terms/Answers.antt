use Rattle.theory_grammar.proofs.LowestLaws.{lowest_terms}
use Rattle.theory_grammar.proofs.laws.literals_are_in_lowest_terms.Goals as goal

pub returns : goal.returns
returns c = lowest_terms
