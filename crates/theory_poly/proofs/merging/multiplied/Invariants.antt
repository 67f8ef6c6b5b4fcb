use Rattle.std.proofs.Common.{◌≡◌, take}
use Rattle.theory_polynomial.specs.Polynomial.{scaled}
use Rattle.theory_poly.proofs.merging.multiplied.Given as goal

abbrev pub invariant-loop-t : goal.invariant-loop-t
invariant-loop-t l = l.all.items ≡ scaled l.n (take l.t-index l.terms)
