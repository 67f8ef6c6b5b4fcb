use Rattle.std.proofs.Common.{take}
use Rattle.theory_poly.specs.Kept.{IsGreatestDivisor}
use Rattle.theory_poly.proofs.content.divisor_of_all.Given as goal

abbrev pub invariant-loop-t : goal.invariant-loop-t
invariant-loop-t l = IsGreatestDivisor (take l.t-index l.terms) l.common
