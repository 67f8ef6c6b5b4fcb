use Rattle.std.proofs.Common.{◌≡◌, pos, take, drop}
use Rattle.theory_polynomial.specs.Polynomial.{scaled}
use Rattle.theory_poly.proofs.poly.divide_all.Given as goal

abbrev pub invariant-loop-t : goal.invariant-loop-t
invariant-loop-t l = record {
  done : scaled (pos l.divisor) (take l.t-index l.terms) ≡ take l.t-index l.initial.terms;
  left : drop l.t-index l.terms ≡ drop l.t-index l.initial.terms;
}
