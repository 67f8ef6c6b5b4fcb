use Rattle.std.proofs.Common.{◌≡◌, ◌∙◌, subst, ap, true}
use Rattle.theory_polynomial.specs.Polynomial.{IsPolynomial, IsLinearIn, IsSplit}
use Rattle.theory_elimination.specs.Branches.{equation_of, equation_if}
use Rattle.theory_signs.specs.Plain.{formula_of}
use Rattle.theory_subst.specs.Equations.{IsLine}
use Rattle.theory_subst.proofs.LineLemmas.{line_is}
use Rattle.theory_subst.proofs.MemberLemmas.{linear_atom, equation_atom}
use Rattle.theory_subst.proofs.EquationLemmas.{wanted_parts, unwanted_parts}
use Rattle.theory_subst.proofs.top_equation.equation.Goals as goal

pub returns-then-not-is_wanted : goal.returns-then-not-is_wanted
returns-then-not-is_wanted c =
    let x = c.args.x in
    let P = c.in-Atom.atom.poly in
    let a = c.in_ok-slope-in-Atom.slope in
    let b = c.in_ok-slope-in-Atom.base in
    let F = c.args.formula.now in
    let split : IsSplit x P a b = subst (λ Q. IsSplit x Q a b) c.poly.ensures.value c.in_ok-slope-in-Atom.ensures.split in
    let slope : IsPolynomial a = subst IsPolynomial c.slope.view_is c.slope.invariant.kept.ordered in
    let base : IsPolynomial b = subst IsPolynomial c.base.view_is c.base.invariant.kept.ordered in
    let linear : IsLinearIn x P = linear_atom x F c.in-Atom.atom c.in-Atom.is c.requires.linear in
    let line : IsLine x P a b = line_is x P a b c.requires.symbol c.poly.ensures.kept.canonical.ordered linear slope base split in
    let own : equation_of x (formula_of F) ≡ equation_if true P =
    equation_atom x F c.in-Atom.atom true c.in-Atom.is (c.is_equation.ensures ∙ ap (λ k. equation_if k P) c.if-not-is_equation.false)
    in
    unwanted_parts c.args.plain x P a b (formula_of F) own line c.if-not-is_wanted.ensures

pub returns-else-not-is_wanted : goal.returns-else-not-is_wanted
returns-else-not-is_wanted c =
    let x = c.args.x in
    let P = c.in-Atom.atom.poly in
    let a = c.in_ok-slope-in-Atom.slope in
    let b = c.in_ok-slope-in-Atom.base in
    let F = c.args.formula.now in
    let split : IsSplit x P a b = subst (λ Q. IsSplit x Q a b) c.poly.ensures.value c.in_ok-slope-in-Atom.ensures.split in
    let slope : IsPolynomial a = subst IsPolynomial c.slope.view_is c.slope.invariant.kept.ordered in
    let base : IsPolynomial b = subst IsPolynomial c.base.view_is c.base.invariant.kept.ordered in
    let linear : IsLinearIn x P = linear_atom x F c.in-Atom.atom c.in-Atom.is c.requires.linear in
    let line : IsLine x P a b = line_is x P a b c.requires.symbol c.poly.ensures.kept.canonical.ordered linear slope base split in
    let own : equation_of x (formula_of F) ≡ equation_if true P =
    equation_atom x F c.in-Atom.atom true c.in-Atom.is (c.is_equation.ensures ∙ ap (λ k. equation_if k P) c.if-not-is_equation.false)
    in
    wanted_parts c.args.plain x P a b (formula_of F) own line c.if-not-is_wanted.ensures
