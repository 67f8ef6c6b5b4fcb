use Rattle.std.proofs.Common.{◌≡◌, drop}
use Rattle.theory_signed.specs.PossibleSigns.{of_terms, of_symbols, possible_signs}
use Rattle.theory_simplify.specs.Parts.{facts_of}
use Rattle.theory_simplify.proofs.possible.possible_signs.Given as goal

abbrev pub invariant-loop-term : goal.invariant-loop-term
invariant-loop-term l =
    of_terms (of_symbols (facts_of l.facts)) l.known (drop l.term-index l.terms) ≡ possible_signs (facts_of l.facts) l.terms
