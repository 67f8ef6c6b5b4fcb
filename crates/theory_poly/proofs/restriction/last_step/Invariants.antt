use Rattle.std.proofs.Common.{◌≡◌, ℕ, ◌≤◌, ◌^◌, pos}
use Rattle.theory_meaning.specs.Fraction.{den}
use Rattle.theory_meaning.specs.Limits.{bound}
use Rattle.theory_polynomial.specs.Polynomial.{IsPolynomialOf, IsBeyond}
use Rattle.theory_polynomial.specs.PolynomialValue.{restriction_step}
use Rattle.theory_poly.proofs.restriction.last_step.Given as goal

abbrev pub invariant-loop-i : goal.invariant-loop-i
invariant-loop-i l = record {
  step : IsPolynomialOf (restriction_step l.x l.value l.terms l.i) l.sum;
  power_is : l.power ≡ pos (den l.value ^ l.i);
  powers_fit : (j : ℕ) → j ≤ l.i → den l.value ^ j ≤ bound;
  steps_fit : (j : ℕ) → j ≤ l.i → IsBeyond (restriction_step l.x l.value l.terms j) → ⊥;
}
