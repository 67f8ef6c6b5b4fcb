use Rattle.std.proofs.Common.{map}
use Rattle.theory_signs.specs.Plain.{formula_of}
use Rattle.theory_subst.specs.Points.{point_of}
use Rattle.theory_subst.proofs.OthersLemmas.{IsMade}
use Rattle.theory_subst.proofs.others.others_at.Given as goal

abbrev pub invariant-loop-k : goal.invariant-loop-k
invariant-loop-k l = IsMade l.x l.place (point_of l.at) l.members l.k (map formula_of l.others.items)
