use Rattle.std.proofs.Common.{map, drop}
use Rattle.theory_formula.specs.Formula.{formulas_from, EachAtomOfAll}
use Rattle.theory_formula.specs.Symbols.{IsNamed}
use Rattle.theory_signs.specs.Plain.{formula_of}
use Rattle.theory_signs.proofs.naming.+named.Given as goal

abbrev pub invariant-members_are_named-loop-member : goal.invariant-members_are_named-loop-member
invariant-members_are_named-loop-member l = record {
  up : EachAtomOfAll (IsNamed l.symbols) (formulas_from (map formula_of (drop l.member-index l.members)))
      → EachAtomOfAll (IsNamed l.symbols) (formulas_from (map formula_of l.members));
  down : EachAtomOfAll (IsNamed l.symbols) (formulas_from (map formula_of l.members))
      → EachAtomOfAll (IsNamed l.symbols) (formulas_from (map formula_of (drop l.member-index l.members)));
}
