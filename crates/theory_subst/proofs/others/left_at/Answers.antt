use Rattle.theory_subst.specs.Points.{point_of}
use Rattle.theory_subst.proofs.OthersLemmas.{left_written, left_fits, left_wide}
use Rattle.theory_subst.proofs.others.left_at.Goals as goal

pub returns-in-Ok-clause-written : goal.returns-in-Ok-clause-written
returns-in-Ok-clause-written c =
    left_written c.args.x c.args.place (point_of c.args.at.now) c.args.formula.now c.in-And.members c.deref.result.now c.in-Ok.others.items
    c.together.result c.in-And.is c.deref.ensures.value c.in-Ok.ensures.written c.together.ensures

pub returns-in-Ok-clause-wide : goal.returns-in-Ok-clause-wide
returns-in-Ok-clause-wide c =
    left_fits c.args.x c.args.place (point_of c.args.at.now) c.args.formula.now c.in-And.members c.deref.result.now c.in-And.is c.deref.ensures.value
    c.in-Ok.ensures.wide

pub returns-in-Err-clause-wide : goal.returns-in-Err-clause-wide
returns-in-Err-clause-wide c =
    left_wide c.args.x c.args.place (point_of c.args.at.now) c.args.formula.now c.in-And.members c.deref.result.now c.in-Err.limit c.in-And.is
    c.deref.ensures.value c.in-Err.ensures.wide
