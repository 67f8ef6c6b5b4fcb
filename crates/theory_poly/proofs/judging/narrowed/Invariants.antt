use Rattle.std.proofs.Common.{◌≡◌, take}
use Rattle.theory_poly.proofs.judging.narrowed.Given as goal

abbrev pub invariant-loop-t : goal.invariant-loop-t
invariant-loop-t l = l.all.items ≡ take l.t-index l.terms
