use Rattle.std.proofs.Common.{◌≡◌, drop, MatchOption}
use Rattle.theory_lowering.specs.WrittenClaim.{sum_from, polynomial_of}
use Rattle.theory_syntax.specs.Plain.{expr_of}
use Rattle.theory_lower.proofs.polynomials.polynomial.Given as goal

abbrev pub invariant-loop-t : goal.invariant-loop-t
invariant-loop-t l =
    MatchOption l.all (l.t-index ≡ 0) (λ u. sum_from l.names (expr_of u) (drop l.t-index l.terms) ≡ polynomial_of l.names l.terms)
