use Rattle.std.proofs.Common.{◌≡◌, drop}
use Rattle.theory_elimination.specs.Facts.{known_set}
use Rattle.theory_simplify.specs.Parts.{facts_of}
use Rattle.theory_simplify.proofs.facts.known_set.Given as goal

abbrev pub invariant-loop-fact : goal.invariant-loop-fact
invariant-loop-fact l = known_set l.atom.poly (facts_of (drop l.fact-index l.facts)) ≡ known_set l.atom.poly (facts_of l.facts)
