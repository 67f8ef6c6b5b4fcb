use Rattle.std.proofs.Common.{map, drop}
use Rattle.theory_formula.specs.Formula.{formulas_from}
use Rattle.theory_signs.specs.Plain.{formula_of}
use Rattle.theory_witness.proofs.RootLemmas.{AddedBefore}
use Rattle.theory_witness.proofs.roots.+roots.Given as goal

abbrev pub invariant-add_all_roots-loop-formula : goal.invariant-add_all_roots-loop-formula
invariant-add_all_roots-loop-formula l =
    AddedBefore l.x (formulas_from (map formula_of l.formulas)) (formulas_from (map formula_of (drop l.formula-index l.formulas)))
    l.initial.roots.items l.roots.items
