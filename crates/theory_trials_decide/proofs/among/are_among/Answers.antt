use Rattle.std.proofs.Common.{List, subst}
use Rattle.theory_meaning.specs.Point.{Name}
use Rattle.theory_meaning.specs.Region.{AreAmong}
use Rattle.theory_trials_decide.proofs.among.are_among.Goals as goal

pub returns : goal.returns
returns c = λ h.
    subst (λ (ns : List Name). AreAmong ns c.args.names.now) c.as_slice.ensures
    (subst (λ (ns : List Name). AreAmong c.as_slice.result.now ns) c.as_slice-2.ensures (c.each_is_among.ensures h))
