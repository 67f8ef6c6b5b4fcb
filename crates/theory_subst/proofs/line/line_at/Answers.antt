use Rattle.std.proofs.Common.{sym, subst}
use Rattle.theory_subst.specs.Points.{point_of}
use Rattle.theory_subst.specs.Lines.{IsWideLine}
use Rattle.theory_subst.proofs.line.line_at.Goals as goal

pub returns-in_ok-make_atom-in-Root-clause-wide : goal.returns-in_ok-make_atom-in-Root-clause-wide
returns-in_ok-make_atom-in-Root-clause-wide c =
    subst (λ r. ¬ IsWideLine (point_of r) c.args.slope.now c.args.base.now) (sym c.in-Root.is) c.in_ok-there-in-Root.ensures.wide

pub returns-in_ok-by_sign-in-Before-clause-wide : goal.returns-in_ok-by_sign-in-Before-clause-wide
returns-in_ok-by_sign-in-Before-clause-wide c =
    subst (λ r. ¬ IsWideLine (point_of r) c.args.slope.now c.args.base.now) (sym c.in-Before.is) c.in_ok-at_root-in-Before.ensures.wide
