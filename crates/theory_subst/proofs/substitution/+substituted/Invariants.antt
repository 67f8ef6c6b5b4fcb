use Rattle.std.proofs.Common.{map, drop}
use Rattle.theory_signs.specs.Plain.{formula_of}
use Rattle.theory_subst.specs.Points.{point_of}
use Rattle.theory_subst.proofs.ListLemmas.{IsReached}
use Rattle.theory_subst.proofs.substitution.+substituted.Given as goal

abbrev pub invariant-all_substituted-loop-formula : goal.invariant-all_substituted-loop-formula
invariant-all_substituted-loop-formula l =
    IsReached l.x (point_of l.at) (map formula_of l.formulas) (map formula_of (drop l.formula-index l.formulas)) (map formula_of l.all.items)
