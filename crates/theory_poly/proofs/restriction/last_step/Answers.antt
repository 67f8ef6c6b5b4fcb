use Rattle.std.proofs.Common.{◌≡◌, pos, w64, sym, ap, ◌∙◌, arith}
use Rattle.std.proofs.lemmas.Int.{ints}
use Rattle.std.proofs.Math.Nat.{pow-zero}
use mir.Val.{to_z, of_z}
use Rattle.theory_meaning.specs.Fraction.{den}
use Rattle.theory_polynomial.specs.PolynomialValue.{IsWideRestriction}
use Rattle.theory_poly.specs.Kept.{PassesInStep}
use Rattle.theory_poly.proofs.StepLaws.{first_step, first_power_fits, first_step_fits, limit_weaker, step_is_wide, step_made, power_made, powers_fit_more, steps_fit_more, all_steps_fit}
use Rattle.theory_poly.proofs.restriction.last_step.Goals as goal

pub loop-i-init : goal.loop-i-init
loop-i-init c = record {
  step = first_step c.args.x c.greatest_exponent-degree.result c.args.value.now c.args.terms.now c.in_ok-sum.sum c.greatest_exponent-degree.ensures
      c.in_ok-sum.ensures c.requires.terms;
  power_is = ap pos (sym (pow-zero (den c.args.value.now)));
  powers_fit = first_power_fits (den c.args.value.now);
  steps_fit = λ j below. first_step_fits c.args.x c.args.value.now c.args.terms.now j below c.requires.terms;
}

pub returns-in-Err-clause-wide : goal.returns-in-Err-clause-wide
returns-in-Err-clause-wide c =
    limit_weaker (PassesInStep c.args.value.now c.loop-i.sum (to_z w64 c.loop-i.power-bits) c.in_ok-next.next)
    (IsWideRestriction c.args.x c.args.value.now c.args.terms.now) c.in-Err.limit
    (step_is_wide c.args.x c.greatest_exponent-degree.result c.args.value.now c.args.terms.now c.loop-i.sum c.in_ok-next.next c.loop-i.i
    (to_z w64 c.loop-i.power-bits)
    c.greatest_exponent-degree.ensures c.loop-i-test.true c.in_ok-next.ensures c.loop-i.invariant.power_is c.loop-i.invariant.step) c.in-Err.ensures.wide

pub loop-i-preserved : goal.loop-i-preserved
loop-i-preserved c =
    let made = c.in-Ok.ensures.value in
    let raised = power_made c.args.value.now c.loop-i.i (to_z w64 c.loop-i.power-bits) c.in-Ok.raised c.loop-i.invariant.power_is made.power_is in
    record {
      step = step_made c.args.x c.greatest_exponent-degree.result c.args.value.now c.args.terms.now c.loop-i.sum c.in_ok-next.next c.in-Ok.found c.loop-i.i
          (to_z w64 c.loop-i.power-bits)
          c.in-Ok.raised c.greatest_exponent-degree.ensures c.in_ok-next.ensures c.loop-i.invariant.power_is c.loop-i.invariant.step made;
      power_is = let cast : to_z w64 (of_z w64 c.in-Ok.raised) ≡ c.in-Ok.raised = omega (arith, ints, made.small) in cast ∙ raised;
      powers_fit = powers_fit_more (den c.args.value.now) c.loop-i.i c.loop-i.invariant.powers_fit c.in-Ok.raised raised made.small;
      steps_fit = steps_fit_more c.args.x c.greatest_exponent-degree.result c.args.value.now c.args.terms.now c.loop-i.sum c.in_ok-next.next c.loop-i.i
          (to_z w64 c.loop-i.power-bits)
          c.greatest_exponent-degree.ensures c.in_ok-next.ensures c.loop-i.invariant.power_is c.loop-i.invariant.step c.in-Ok.ensures.wide
          c.loop-i.invariant.steps_fit;
    }

pub returns-clause-wide : goal.returns-clause-wide
returns-clause-wide c =
    all_steps_fit c.args.x c.args.value.now c.args.terms.now c.loop-i.i (omega (arith, c.greatest_exponent-degree.ensures, c.loop-i-test.false))
    c.loop-i.invariant.powers_fit c.loop-i.invariant.steps_fit
