use Rattle.std.proofs.Common.{arith}
use Rattle.std.proofs.lemmas.Int.{ints}
use Rattle.theory_points.proofs.KeptLemmas.{kept_of_opposite}
use Rattle.theory_points.proofs.frac.Frac.neg.Goals as goal

pub invariant_of-result : goal.invariant_of-result
invariant_of-result c = (c.self.invariant.0, kept_of_opposite c.self.inside.num _ c.self.inside.den (omega (arith, ints)) c.self.invariant.1)
