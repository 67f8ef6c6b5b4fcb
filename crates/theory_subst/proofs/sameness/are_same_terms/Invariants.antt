use Rattle.std.proofs.Common.{◌≡◌, drop}
use Rattle.theory_elimination.specs.SameFormula.{is_same_poly}
use Rattle.theory_subst.proofs.sameness.are_same_terms.Given as goal

abbrev pub invariant-loop-k : goal.invariant-loop-k
invariant-loop-k l = is_same_poly l.a l.b ≡ is_same_poly (drop l.k l.a) (drop l.k l.b)
