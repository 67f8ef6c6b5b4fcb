use Rattle.std.proofs.Common.{◌≡◌, map, take}
use Rattle.theory_signs.specs.Plain.{formula_of}
use Rattle.theory_subst.specs.Equations.{without}
use Rattle.theory_subst.proofs.others.but_one.Given as goal

abbrev pub invariant-loop-place : goal.invariant-loop-place
invariant-loop-place l = map formula_of l.others.items ≡ without l.at (map formula_of (take l.place l.members))
