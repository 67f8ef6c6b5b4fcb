use Rattle.theory_model.specs.Keyed.{place_in}
use Rattle.theory_model.proofs.KeyedLemmas.{keys_blamed, keys_step}
use Rattle.theory_model.proofs.keys.Keys.new.Goals as goal

pub returns-in-Err : goal.returns-in-Err
returns-in-Err c =
    keys_blamed c.args.lines.now c.loop-k.k c.index-lines-k.result (place_in c.loop-k.places) (place_in c.hold.new.places) c.in-Err.fault
    c.loop-k-test.true c.index-lines-k.is c.loop-k.invariant.held c.loop-k.invariant.left c.in-Err.ensures

pub loop-k-preserved : goal.loop-k-preserved
loop-k-preserved c =
    let next = keys_step c.args.lines.now c.loop-k.k c.index-lines-k.result (place_in c.loop-k.places) (place_in c.hold.new.places)
    c.loop-k-test.true c.index-lines-k.is c.loop-k.invariant.held c.loop-k.invariant.left c.in-Ok.ensures in
    record { held = next.0; left = next.1 }
