use Rattle.std.proofs.Common.{◌≡◌, drop}
use Rattle.std.specs.List.{filter}
use Rattle.theory_elimination.specs.Simplified.{with_conditions}
use Rattle.theory_signed.specs.Signed.{is_on_symbol}
use Rattle.theory_simplify.specs.Parts.{facts_of, parts_of}
use Rattle.theory_simplify.proofs.facts.add_conditions_on_symbols.Given as goal

abbrev pub invariant-loop-member : goal.invariant-loop-member
invariant-loop-member l =
    with_conditions (filter is_on_symbol (parts_of (drop l.member-index l.members))) (facts_of l.facts.items)
    ≡ with_conditions (filter is_on_symbol (parts_of l.members)) (facts_of l.fn.facts.items)
