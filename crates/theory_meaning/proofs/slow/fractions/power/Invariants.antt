use Rattle.std.proofs.Common.{◌≡◌}
use Rattle.theory_meaning.specs.Fraction.{power_of}
use Rattle.theory_meaning.specs.Slow.{number_of}
use Rattle.theory_meaning.proofs.slow.fractions.power.Given as goal

abbrev pub invariant-loop : goal.invariant-loop
invariant-loop l = number_of l.all ≡ power_of (number_of l.q) l.counter
