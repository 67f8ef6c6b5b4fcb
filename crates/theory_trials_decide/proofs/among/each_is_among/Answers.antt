use Rattle.theory_trials_decide.proofs.AmongLemmas.{among_from}
use Rattle.theory_trials_decide.proofs.among.each_is_among.Goals as goal

pub loop-name-preserved : goal.loop-name-preserved
loop-name-preserved c = λ h.
    c.loop-name.invariant
    (among_from c.args.some.now c.args.names.now c.loop-name.name-index c.name-item.result c.loop-name-test.true c.name-item.is
    (c.is_one.ensures c.if-not-is_one.false) h)
