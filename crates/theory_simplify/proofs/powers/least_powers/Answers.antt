use Rattle.std.proofs.Common.{arith, min}
use Rattle.std.specs.Prelude.{get_or}
use Rattle.theory_simplify.proofs.PowerLemmas.{set_step, set_long, least_is}
use Rattle.theory_simplify.proofs.powers.least_powers.Goals as goal

pub loop-x-preserved : goal.loop-x-preserved
loop-x-preserved c =
    let below = c.loop-x-test.true in
    let long = c.loop-x.invariant.long in
    record {
      long = set_long c.loop-x.least c.loop-x.x _ 32 long;
      at = set_step c.loop-x.least c.loop-x.x _ (λ j. min (get_or c.args.first.now j 0) (get_or c.args.second.now j 0))
          (omega (arith, below, long)) (grind (arith, c.min.ensures)) c.loop-x.invariant.at;
    }

pub returns : goal.returns
returns c =
    let long = c.loop-x.invariant.long in
    let done = c.loop-x-test.false in
    least_is c.args.first.now c.args.second.now c.loop-x.least (omega (arith, c.told-first, c.told-second)) (omega (arith, long, c.told-first))
    (λ j below. c.loop-x.invariant.at j (omega (arith, below, long, done)))
