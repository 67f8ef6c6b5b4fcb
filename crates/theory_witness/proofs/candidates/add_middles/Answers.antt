use Rattle.std.proofs.Common.{arith}
use Rattle.theory_witness.proofs.TriedLemmas.{nothing_added, middle_fits, middle_added, all_added}
use Rattle.theory_witness.proofs.candidates.add_middles.Goals as goal

pub loop-k-init : goal.loop-k-init
loop-k-init c = nothing_added _ _ c.requires

pub middle-requires : goal.middle-requires
middle-requires c =
    middle_fits c.args.roots.now _ _ c.loop-k.k _ _ _ (omega arith) c.loop-k-test.true c.index-roots-k.is c.index-roots-k-in-loop-k.is c.loop-k.invariant

pub loop-k-preserved : goal.loop-k-preserved
loop-k-preserved c =
    middle_added c.args.roots.now _ _ _ c.loop-k.k _ _ _ c.middle.result (omega arith) c.loop-k-test.true c.index-roots-k.is c.index-roots-k-in-loop-k.is
    c.middle.ensures c.in_ok-push.ensures.items c.loop-k.invariant

pub returns : goal.returns
returns c = all_added c.args.roots.now _ _ c.loop-k.k c.loop-k-test.false c.loop-k.invariant
