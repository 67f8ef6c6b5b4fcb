use Rattle.theory_points.proofs.QuotientLemmas.{AreLowest-by_gcd}
use Rattle.theory_points.proofs.frac.lowest_terms.Goals as goal

pub returns : goal.returns
returns c = AreLowest-by_gcd _ _ _ c.requires c.common_divisor-divisor.ensures.value
