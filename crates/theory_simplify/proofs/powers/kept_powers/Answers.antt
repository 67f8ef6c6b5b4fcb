use Rattle.std.proofs.Common.{arith, ◌+◌, ◌-◌, refl}
use Rattle.std.specs.Prelude.{get_or}
use Rattle.theory_simplify.proofs.PowerLemmas.{set_step, set_long, kept_is}
use Rattle.theory_simplify.proofs.powers.kept_powers.Goals as goal

pub loop-x-preserved : goal.loop-x-preserved
loop-x-preserved c =
    let below = c.loop-x-test.true in
    let long = c.loop-x.invariant.long in
    record {
      long = set_long c.loop-x.left c.loop-x.x _ 32 long;
      at = set_step c.loop-x.left c.loop-x.x _ (λ j. get_or c.args.kept.now j 0 + (get_or c.args.powers.now j 0 - get_or c.args.common.now j 0))
          (omega (arith, below, long)) refl c.loop-x.invariant.at;
    }

pub returns : goal.returns
returns c =
    let long = c.loop-x.invariant.long in
    let done = c.loop-x-test.false in
    kept_is c.args.kept.now c.args.powers.now c.args.common.now c.loop-x.left (omega (arith, c.told-kept, c.told-powers))
    (omega (arith, c.told-powers, c.told-common)) (omega (arith, long, c.told-kept)) (λ j below. c.loop-x.invariant.at j (omega (arith, below, long, done)))
