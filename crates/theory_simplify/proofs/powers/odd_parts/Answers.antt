use Rattle.std.proofs.Common.{arith}
use Rattle.std.specs.Prelude.{get_or}
use Rattle.theory_signed.specs.CommonPowers.{odd_part}
use Rattle.theory_simplify.proofs.PowerLemmas.{set_step, set_long, odd_is}
use Rattle.theory_simplify.proofs.powers.odd_parts.Goals as goal

pub loop-x-preserved : goal.loop-x-preserved
loop-x-preserved c =
    let below = c.loop-x-test.true in
    let long = c.loop-x.invariant.long in
    record {
      long = set_long c.loop-x.odd c.loop-x.x _ 32 long;
      at = set_step c.loop-x.odd c.loop-x.x _ (λ j. odd_part (get_or c.args.powers.now j 0))
          (omega (arith, below, long)) c.odd_part.ensures c.loop-x.invariant.at;
    }

pub returns : goal.returns
returns c =
    let long = c.loop-x.invariant.long in
    let done = c.loop-x-test.false in
    odd_is c.args.powers.now c.loop-x.odd (omega (arith, long, c.told-powers)) (λ j below. c.loop-x.invariant.at j (omega (arith, below, long, done)))
