use Rattle.std.proofs.Common.{◌*◌, ◌^◌, length, subst₂}
use Rattle.theory_polynomial.specs.Polynomial.{product_of, IsPolynomialOf}
use Rattle.theory_poly.specs.Kept.{IsGathered}
use Rattle.theory_poly.proofs.AnswerLaws.{answers_value, answers_wide}
use Rattle.theory_poly.proofs.poly.Poly.mul.Goals as goal

-- what was gathered is the product
gathered : (c : goal.After-drop-all) → IsPolynomialOf (product_of c.args.self.now c.args.other.now) c.in_ok-all.all.items
gathered c =
    let all = subst₂ (λ a b. IsGathered (product_of a b) (length a * 2 ^ 116) c.in_ok-all.all.items)
    c.as_slice.ensures.value c.as_slice-2.ensures.value c.in_ok-all.ensures in all.ordered

pub returns-clause-value : goal.returns-clause-value
returns-clause-value c =
    answers_value (product_of c.args.self.now c.args.other.now) c.in_ok-all.all.items c.deref.result.now c.judged.result
    (gathered c) c.deref.ensures.value c.judged.ensures.value

pub returns-clause-wide : goal.returns-clause-wide
returns-clause-wide c =
    answers_wide (product_of c.args.self.now c.args.other.now) c.in_ok-all.all.items c.deref.result.now c.judged.result
    (gathered c) c.deref.ensures.value c.judged.ensures.wide
