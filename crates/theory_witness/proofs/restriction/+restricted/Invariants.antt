use Rattle.std.proofs.Common.{map, drop}
use Rattle.theory_signs.specs.Plain.{formula_of}
use Rattle.theory_witness.proofs.RestrictionLemmas.{IsRestricted}
use Rattle.theory_witness.proofs.restriction.+restricted.Given as goal

abbrev pub invariant-all_restricted-loop-formula : goal.invariant-all_restricted-loop-formula
invariant-all_restricted-loop-formula l =
    IsRestricted l.values (map formula_of l.formulas) (map formula_of (drop l.formula-index l.formulas)) (map formula_of l.all.items)
