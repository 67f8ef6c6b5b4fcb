use Rattle.std.proofs.Common.{arith}
use Rattle.std.proofs.lemmas.Int.{ints}
use Rattle.theory_points.proofs.WholeLemmas.{below_from_floor}
use Rattle.theory_points.proofs.whole.whole_below.Goals as goal

pub returns-clause-value : goal.returns-clause-value
returns-clause-value c =
    below_from_floor c.args.f.now _ _ _ _ c.rounded_down.ensures.value (omega (arith, ints)) (omega (arith, ints)) (omega (arith, ints))
