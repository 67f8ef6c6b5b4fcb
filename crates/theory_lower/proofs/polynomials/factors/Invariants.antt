use Rattle.std.proofs.Common.{◌≡◌, ◌++◌, map, drop}
use Rattle.theory_lowering.specs.WrittenClaim.{factors_of}
use Rattle.theory_syntax.specs.Plain.{expr_of}
use Rattle.theory_lower.proofs.polynomials.factors.Given as goal

abbrev pub invariant-loop-i : goal.invariant-loop-i
invariant-loop-i l = map expr_of l.all.items ++ factors_of (drop l.i l.names) (drop l.i l.powers) ≡ factors_of l.names l.powers
