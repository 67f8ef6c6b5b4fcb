use Rattle.std.proofs.Common.{◌≤◌, take}
use Rattle.theory_meaning.specs.Limits.{bound}
use Rattle.theory_polynomial.specs.Polynomial.{greatest_exponent_of, height_of}
use Rattle.theory_poly.proofs.judging.passes_limit.Given as goal

abbrev pub invariant-loop-t : goal.invariant-loop-t
invariant-loop-t l = record {
  exponents : greatest_exponent_of (take l.t-index l.terms) ≤ 15;
  coefficients : height_of (take l.t-index l.terms) ≤ bound;
}
