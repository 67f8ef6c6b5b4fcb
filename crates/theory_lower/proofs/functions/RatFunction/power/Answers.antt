use Rattle.std.proofs.Common.{◌≡◌, subst, arith}
use Rattle.theory_lowering.specs.RationalFunction.{RationalFunction, IsPowerOf}
use Rattle.theory_lowering.specs.LoweringLimits.{IsWideProduct, IsWidePower}
use Rattle.theory_lower.proofs.FunctionLaws.{passed_on, power_more, power_fits_more, wide_at_last}
use Rattle.theory_lower.proofs.functions.RatFunction.power.Goals as goal

pub returns-in-Err-clause-wide : goal.returns-in-Err-clause-wide
returns-in-Err-clause-wide c =
    let a = c.args.self.now in
    passed_on RationalFunction RationalFunction (IsWideProduct c.loop.all a) (IsWidePower a c.args.exponent) c.in-Err.limit
    (wide_at_last a c.loop.all c.loop.counter c.args.exponent c.loop-test.true c.loop.invariant.is) c.in-Err.ensures.wide

pub loop-preserved : goal.loop-preserved
loop-preserved c =
    let a = c.args.self.now in
    record {
      is = power_more a c.loop.all c.in-Ok.next c.loop.counter c.loop.invariant.is c.in-Ok.ensures.value;
      fits = power_fits_more a c.loop.all c.loop.counter (record { top = c.top.ensures.kept; bottom = c.bottom.ensures.kept }) c.loop.invariant.is
          c.loop.invariant.fits c.in-Ok.ensures.wide;
    }

pub returns-clause-value : goal.returns-clause-value
returns-clause-value c =
    let end : c.loop.counter ≡ c.args.exponent = omega (arith, c.loop-test.false, c.loop.auto.counter-end) in
    subst (λ k. IsPowerOf c.args.self.now k c.loop.all) end c.loop.invariant.is

pub returns-clause-wide : goal.returns-clause-wide
returns-clause-wide c =
    let end : c.loop.counter ≡ c.args.exponent = omega (arith, c.loop-test.false, c.loop.auto.counter-end) in
    subst (λ k. ¬ IsWidePower c.args.self.now k) end c.loop.invariant.fits
