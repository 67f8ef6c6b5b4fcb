use Rattle.theory_witness.proofs.PointLemmas.{entry_added}
use Rattle.theory_witness.proofs.pointing.named_point.Goals as goal

pub loop-k-preserved : goal.loop-k-preserved
loop-k-preserved c =
    entry_added c.loop-k.k c.args.names.now c.args.values.now c.index-names-k.result c.in_ok-copy.field-0 c.value_of.result c.loop-k.entries.items
    c.push.new.self.items c.loop-k-test.true c.index-names-k.is c.in_ok-copy.ensures c.value_of.ensures c.in_ok-push.ensures.items c.loop-k.invariant
