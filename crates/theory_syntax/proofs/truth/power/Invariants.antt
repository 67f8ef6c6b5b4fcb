use Rattle.theory_meaning.specs.Fraction.{IsSame, power_of}
use Rattle.theory_points.specs.Parts.{IsKept}
use Rattle.theory_syntax.proofs.truth.power.Given as goal

abbrev pub invariant-loop : goal.invariant-loop
invariant-loop l = IsSame l.all (power_of l.q l.counter) × IsKept l.all
