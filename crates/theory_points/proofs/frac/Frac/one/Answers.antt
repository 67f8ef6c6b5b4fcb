use Rattle.std.proofs.Common.{arith}
use Rattle.std.proofs.Math.Nat.{eq-one_of_dvd-one}
use Rattle.theory_points.proofs.frac.Frac.one.Goals as goal

pub invariant_of-result : goal.invariant_of-result
invariant_of-result c =
    (omega arith, record { within = record { top = omega arith; bottom = omega arith }; reduced = λ d h k. eq-one_of_dvd-one k })
