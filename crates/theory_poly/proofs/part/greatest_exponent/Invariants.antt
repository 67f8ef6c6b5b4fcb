use Rattle.std.proofs.Common.{◌≡◌, max, drop}
use Rattle.theory_polynomial.specs.Polynomial.{degree_in}
use Rattle.theory_poly.proofs.part.greatest_exponent.Given as goal

abbrev pub invariant-loop-t : goal.invariant-loop-t
invariant-loop-t l = max l.greatest (degree_in l.x (drop l.t-index l.terms)) ≡ degree_in l.x l.terms
