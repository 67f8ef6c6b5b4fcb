use Rattle.std.proofs.Common.{◌≡◌, map, drop}
use Rattle.theory_formula.specs.Formula.{EachAtomOfAll, formulas_from, all_by, some_by, reading_at}
use Rattle.theory_signs.specs.Plain.{formula_of}
use Rattle.theory_decision.specs.Witness.{only_at}
use Rattle.theory_witness.specs.Lines.{HoldsOnly}
use Rattle.theory_witness.proofs.trial.+trial.Given as goal

abbrev pub invariant-are_all_true_at-loop-formula : goal.invariant-are_all_true_at-loop-formula
invariant-are_all_true_at-loop-formula l = record {
  only : EachAtomOfAll (HoldsOnly l.x) (formulas_from (map formula_of (drop l.formula-index l.formulas)));
  same : all_by (reading_at (only_at l.x l.at)) (formulas_from (map formula_of (drop l.formula-index l.formulas)))
      ≡ all_by (reading_at (only_at l.x l.at)) (formulas_from (map formula_of l.formulas));
}

abbrev pub invariant-is_some_true_at-loop-formula : goal.invariant-is_some_true_at-loop-formula
invariant-is_some_true_at-loop-formula l = record {
  only : EachAtomOfAll (HoldsOnly l.x) (formulas_from (map formula_of (drop l.formula-index l.formulas)));
  same : some_by (reading_at (only_at l.x l.at)) (formulas_from (map formula_of (drop l.formula-index l.formulas)))
      ≡ some_by (reading_at (only_at l.x l.at)) (formulas_from (map formula_of l.formulas));
}
