use Rattle.std.proofs.Common.{◌^◌, subst₂}
use Rattle.theory_polynomial.specs.Polynomial.{cross_of, IsPolynomialOf}
use Rattle.theory_poly.specs.Kept.{IsGathered}
use Rattle.theory_poly.proofs.AnswerLaws.{carries_divided, carries_sign, carries_wide}
use Rattle.theory_poly.proofs.poly.Poly.cross.Goals as goal

-- what was gathered is the difference of the products
gathered : (c : goal.After-drop-all) → IsPolynomialOf (cross_of c.args.a.now c.args.b2.now c.args.a2.now c.args.b.now) c.in_ok-all.all.items
gathered c =
    let first = subst₂ (λ a b2. IsGathered (cross_of a b2 c.as_slice-3.result.now c.as_slice-4.result.now) (2 ^ 124) c.in_ok-all.all.items)
    c.as_slice.ensures.value c.as_slice-2.ensures.value c.in_ok-all.ensures in
    let both = subst₂ (λ a2 b. IsGathered (cross_of c.args.a.now c.args.b2.now a2 b) (2 ^ 124) c.in_ok-all.all.items)
    c.as_slice-3.ensures.value c.as_slice-4.ensures.value first in both.ordered

pub returns-clause-value : goal.returns-clause-value
returns-clause-value c =
    carries_divided (cross_of c.args.a.now c.args.b2.now c.args.a2.now c.args.b.now) c.in_ok-all.all.items c.deref.result.now c.judged_primitive.result
    (gathered c) c.deref.ensures.value c.judged_primitive.ensures.value

pub returns-clause-wide : goal.returns-clause-wide
returns-clause-wide c =
    carries_wide (cross_of c.args.a.now c.args.b2.now c.args.a2.now c.args.b.now) c.in_ok-all.all.items c.deref.result.now c.judged_primitive.result
    (gathered c) c.deref.ensures.value c.judged_primitive.ensures.wide

pub returns-clause-sign : goal.returns-clause-sign
returns-clause-sign c =
    carries_sign (cross_of c.args.a.now c.args.b2.now c.args.a2.now c.args.b.now) c.in_ok-all.all.items c.deref.result.now c.judged_primitive.result
    (gathered c) c.deref.ensures.value c.judged_primitive.ensures.value
