use Rattle.std.proofs.Common.{◌≡◌, pos, take}
use Rattle.theory_polynomial.specs.Polynomial.{scaled}
use Rattle.theory_poly.proofs.content.divided.Given as goal

abbrev pub invariant-loop-t : goal.invariant-loop-t
invariant-loop-t l = scaled (pos l.divisor) l.all.items ≡ take l.t-index l.terms
