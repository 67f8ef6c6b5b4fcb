use Rattle.std.proofs.Common.{◌≡◌, map, take}
use Rattle.theory_signs.specs.Plain.{formula_of}
use Rattle.theory_signs.proofs.copying.+copied.Given as goal

abbrev pub invariant-copied_all-loop-formula : goal.invariant-copied_all-loop-formula
invariant-copied_all-loop-formula l = map formula_of l.all.items ≡ map formula_of (take l.formula-index l.formulas)
