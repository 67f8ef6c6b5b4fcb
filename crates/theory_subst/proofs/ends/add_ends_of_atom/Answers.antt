use Rattle.std.proofs.Common.{◌≡◌, ◌∙◌, ap, subst, OnOk}
use Rattle.theory_polynomial.specs.Polynomial.{IsPolynomial, IsSplit, degree_in}
use Rattle.theory_elimination.specs.TestPoint.{is_constant, ends_by_slope}
use Rattle.theory_subst.specs.Points.{points_of, with_new}
use Rattle.theory_subst.specs.Equations.{IsLine}
use Rattle.theory_subst.proofs.EndLemmas.{held_ends}
use Rattle.theory_subst.proofs.LineLemmas.{line_is}
use Rattle.theory_subst.proofs.ends.add_ends_of_atom.Goals as goal

pub returns : goal.returns
returns c =
    let x = c.args.x in
    let P = c.args.atom.now.poly in
    let a = c.in_ok-slope.slope in
    let b = c.in_ok-slope.base in
    let split : IsSplit x P a b = subst (λ Q. IsSplit x Q a b) c.poly-2.ensures.value c.in_ok-slope.ensures.split in
    let slope : IsPolynomial a = subst IsPolynomial c.slope.view_is c.slope.invariant.kept.ordered in
    let base : IsPolynomial b = subst IsPolynomial c.base.view_is c.base.invariant.kept.ordered in
    let line : IsLine x P a b = line_is x P a b c.requires.symbol c.poly.ensures.kept.canonical.ordered c.requires.linear slope base split in
    let held : degree_in x P ≡ 0 → ⊥ = λ e. c.if-degree_in-eq0.false (c.degree_in.ensures ∙ ap (degree_in x) c.poly.ensures.value ∙ e) in
    let ends = ap (λ S. ends_by_slope (is_constant a) S a b) c.signs.ensures ∙ held_ends x P c.args.atom.now.signs a b held line in
    subst (λ es. OnOk c.add_ends_of_line.result (points_of c.add_ends_of_line.new.points.items ≡ with_new (points_of c.args.points.now.items) es)) ends
    c.add_ends_of_line.ensures
