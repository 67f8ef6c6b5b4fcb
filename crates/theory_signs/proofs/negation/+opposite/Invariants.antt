use Rattle.std.proofs.Common.{◌≡◌, map, take}
use Rattle.theory_formula.specs.Formula.{negated}
use Rattle.theory_signs.specs.Plain.{formula_of}
use Rattle.theory_signs.proofs.negation.+opposite.Given as goal

abbrev pub invariant-opposites-loop-formula : goal.invariant-opposites-loop-formula
invariant-opposites-loop-formula l = map formula_of l.all.items ≡ map negated (map formula_of (take l.formula-index l.formulas))
