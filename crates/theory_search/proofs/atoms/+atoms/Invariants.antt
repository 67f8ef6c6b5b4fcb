use Rattle.std.proofs.Common.{map, drop}
use Rattle.theory_signs.specs.Plain.{formula_of}
use Rattle.theory_search.specs.Atoms.{rows_of}
use Rattle.theory_search.proofs.AtomLemmas.{AddsRest}
use Rattle.theory_search.proofs.atoms.+atoms.Given as goal

abbrev pub invariant-add_all_atoms-loop-formula : goal.invariant-add_all_atoms-loop-formula
invariant-add_all_atoms-loop-formula l =
    AddsRest (map formula_of l.formulas) (map formula_of (drop l.formula-index l.formulas)) (rows_of l.fn.found.items) (rows_of l.found.items)
