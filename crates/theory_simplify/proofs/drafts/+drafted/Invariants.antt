use Rattle.std.proofs.Common.{◌≡◌, map, take}
use Rattle.theory_signs.specs.Plain.{formula_of}
use Rattle.theory_simplify.specs.Drafts.{draft_of}
use Rattle.theory_simplify.proofs.drafts.+drafted.Given as goal

abbrev pub invariant-all_drafted-loop-formula : goal.invariant-all_drafted-loop-formula
invariant-all_drafted-loop-formula l = map draft_of l.all.items ≡ map formula_of (take l.formula-index l.formulas)
