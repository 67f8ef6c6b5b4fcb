use Rattle.theory_lowering.specs.RationalFunction.{IsPowerOf}
use Rattle.theory_lowering.specs.LoweringLimits.{IsWidePower}
use Rattle.theory_lower.proofs.functions.RatFunction.power.Given as goal

abbrev pub invariant-loop : goal.invariant-loop
invariant-loop l = record {
  is : IsPowerOf l.self l.counter l.all;
  fits : IsWidePower l.self l.counter → ⊥;
}
