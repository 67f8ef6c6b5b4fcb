use Rattle.std.proofs.Common.{◌≡◌, max, drop}
use Rattle.theory_polynomial.specs.Polynomial.{greatest_of}
use Rattle.theory_poly.proofs.judging.greatest.Given as goal

abbrev pub invariant-loop-n : goal.invariant-loop-n
invariant-loop-n l = max l.most (greatest_of (drop l.n-index l.powers)) ≡ greatest_of l.powers
