use Rattle.std.proofs.Common.{◌↔◌, map, drop}
use Rattle.theory_formula.specs.Formula.{EachAtomOfAll, formulas_from}
use Rattle.theory_elimination.specs.Elimination.{IsLinearAtom}
use Rattle.theory_signs.specs.Plain.{formula_of}
use Rattle.theory_subst.proofs.linearity.+linear.Given as goal

abbrev pub invariant-have_linear_atoms-loop-formula : goal.invariant-have_linear_atoms-loop-formula
invariant-have_linear_atoms-loop-formula l =
    EachAtomOfAll (IsLinearAtom l.x) (formulas_from (map formula_of l.formulas))
    ↔ EachAtomOfAll (IsLinearAtom l.x) (formulas_from (map formula_of (drop l.formula-index l.formulas)))
