use Rattle.std.proofs.Common.{◌≢◌, pos, arith, to_z-of_z}
use Rattle.std.proofs.lemmas.Int.{ints}
use Rattle.theory_points.proofs.QuotientLemmas.{bounded_quotient}
use Rattle.theory_points.proofs.frac.Frac.new.Goals as goal

pub returns-clause-value : goal.returns-clause-value
returns-clause-value c =
    let divides : c.args.d ≢ pos 0 = grind (arith, ints) in
    bounded_quotient _ _ _ _ _ _ _ _ _ (to_z-of_z c.ranges.n) (to_z-of_z c.ranges.d) divides
    c.unsigned_abs.ensures.value c.unsigned_abs-2.ensures.value c.lowest_terms-top.ensures c.signed_parts.ensures.value
