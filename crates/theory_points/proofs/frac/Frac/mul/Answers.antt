use Rattle.std.proofs.Common.{arith}
use Rattle.std.proofs.lemmas.Int.{ints}
use Rattle.theory_points.proofs.QuotientLemmas.{bounded_over_both}
use Rattle.theory_points.proofs.frac.Frac.mul.Goals as goal

pub returns-clause-value : goal.returns-clause-value
returns-clause-value c =
    bounded_over_both _ _ _ c.args.self.now c.args.other.now c.new.result (omega (arith, ints)) (omega (arith, ints)) c.new.ensures.value
