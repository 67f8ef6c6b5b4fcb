use Rattle.std.proofs.Common.{◌≡◌, map, MatchOption}
use Rattle.theory_lowering.specs.WrittenClaim.{product_from, multiple_of}
use Rattle.theory_syntax.specs.Plain.{expr_of}
use Rattle.theory_lower.proofs.polynomials.multiple.Given as goal

abbrev pub invariant-loop-factor : goal.invariant-loop-factor
invariant-loop-factor l =
    MatchOption l.all ((l.n ≡ 1) × (map expr_of l.factor-iterator.rest.items ≡ map expr_of l.fn.factors.items))
    (λ u. product_from (expr_of u) (map expr_of l.factor-iterator.rest.items) ≡ multiple_of l.n (map expr_of l.fn.factors.items))
