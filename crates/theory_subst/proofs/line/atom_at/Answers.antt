use Rattle.std.proofs.Common.{subst}
use Rattle.theory_polynomial.specs.Polynomial.{IsPolynomial}
use Rattle.theory_subst.specs.Points.{point_of}
use Rattle.theory_subst.proofs.AtomLemmas.{line_by_parts, wide_by_parts}
use Rattle.theory_subst.proofs.line.atom_at.Goals as goal

pub returns-clause-written : goal.returns-clause-written
returns-clause-written c =
    line_by_parts c.args.x (point_of c.args.at.now) c.args.poly.now c.in_ok-slope.slope c.in_ok-slope.base c.args.signs c.line_at.result c.requires.symbol
    c.requires.linear.poly.canonical.ordered c.requires.linear.linear (subst IsPolynomial c.slope.view_is c.slope.invariant.kept.ordered)
    (subst IsPolynomial c.base.view_is c.base.invariant.kept.ordered) c.in_ok-slope.ensures.split c.line_at.ensures.written

pub returns-clause-wide : goal.returns-clause-wide
returns-clause-wide c =
    wide_by_parts c.args.x (point_of c.args.at.now) c.args.poly.now c.in_ok-slope.slope c.in_ok-slope.base c.line_at.result c.requires.symbol
    c.requires.linear.poly.canonical.ordered c.requires.linear.linear (subst IsPolynomial c.slope.view_is c.slope.invariant.kept.ordered)
    (subst IsPolynomial c.base.view_is c.base.invariant.kept.ordered) c.in_ok-slope.ensures.split c.line_at.ensures.wide
