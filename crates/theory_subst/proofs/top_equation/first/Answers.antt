use Rattle.std.proofs.Common.{subst}
use Rattle.theory_signs.specs.Plain.{formula_of}
use Rattle.theory_subst.specs.declared.top_equation.TopEquation.{TopEquation}
use Rattle.theory_subst.specs.Equations.{equation_with, ArePartsOf}
use Rattle.theory_subst.proofs.MemberLemmas.{left_on, found_member}
use Rattle.theory_subst.proofs.top_equation.first.Goals as goal

pub returns-in-Some : goal.returns-in-Some
returns-in-Some c =
    let f : TopEquation = record { place = c.loop-place.place; slope = c.in-Some.slope; base = c.in-Some.base } in
    found_member c.args.x c.args.plain c.args.members.now f c.index-members-place.result c.loop-place-test.true c.index-members-place.is c.loop-place.invariant
    (subst (ArePartsOf c.args.x (equation_with c.args.plain c.args.x (formula_of c.index-members-place.result))) c.in-Some.is c.in_ok-slope.ensures)

pub loop-place-preserved : goal.loop-place-preserved
loop-place-preserved c =
    left_on c.args.x c.args.plain c.args.members.now c.loop-place.place c.index-members-place.result c.loop-place-test.true c.index-members-place.is
    c.loop-place.invariant
    (subst (ArePartsOf c.args.x (equation_with c.args.plain c.args.x (formula_of c.index-members-place.result))) c.in-None.is c.in_ok-slope.ensures)
