use Rattle.std.proofs.Common.{◌≡◌, take}
use Rattle.theory_polynomial.specs.PolynomialValue.{part_of}
use Rattle.theory_poly.proofs.part.part.Given as goal

abbrev pub invariant-loop-t : goal.invariant-loop-t
invariant-loop-t l = l.all.items ≡ part_of l.x l.exponent (take l.t-index l.terms)
