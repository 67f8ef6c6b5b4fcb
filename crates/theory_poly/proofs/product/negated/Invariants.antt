use Rattle.std.proofs.Common.{◌≡◌, negsuc, take}
use Rattle.theory_polynomial.specs.Polynomial.{scaled}
use Rattle.theory_poly.proofs.product.negated.Given as goal

abbrev pub invariant-loop-t : goal.invariant-loop-t
invariant-loop-t l = l.all.items ≡ scaled (negsuc 0) (take l.t-index l.terms)
