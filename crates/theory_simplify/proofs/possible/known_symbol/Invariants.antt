use Rattle.std.proofs.Common.{◌≡◌, drop}
use Rattle.theory_polynomial.specs.Terms.{symbol_of}
use Rattle.theory_elimination.specs.Facts.{known_set}
use Rattle.theory_simplify.specs.Parts.{facts_of}
use Rattle.theory_simplify.proofs.possible.known_symbol.Given as goal

abbrev pub invariant-loop-fact : goal.invariant-loop-fact
invariant-loop-fact l = known_set (symbol_of l.x) (facts_of (drop l.fact-index l.facts)) ≡ known_set (symbol_of l.x) (facts_of l.facts)
