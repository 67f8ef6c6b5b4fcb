use Rattle.std.proofs.Common.{◌≡◌, take}
use Rattle.theory_polynomial.specs.Polynomial.{multiple_of}
use Rattle.theory_poly.proofs.product.row.Given as goal

abbrev pub invariant-loop-u : goal.invariant-loop-u
invariant-loop-u l = l.all.items ≡ multiple_of l.t (take l.u-index l.terms)
