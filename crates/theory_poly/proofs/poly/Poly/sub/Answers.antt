use Rattle.std.proofs.Common.{◌^◌, pos, negsuc, subst₂}
use Rattle.theory_polynomial.specs.Polynomial.{scaled, sum_of, difference_of, IsPolynomialOf}
use Rattle.theory_poly.specs.Kept.{IsGathered}
use Rattle.theory_poly.proofs.ScaleLaws.{polynomial_of_same, second_turned}
use Rattle.theory_poly.proofs.AnswerLaws.{answers_value, answers_wide}
use Rattle.theory_poly.proofs.poly.Poly.sub.Goals as goal

-- what was gathered is the difference
gathered : (c : goal.After-drop-all) → IsPolynomialOf (difference_of c.args.self.now c.args.other.now) c.in_ok-all.all.items
gathered c =
    let all = subst₂ (λ a b. IsGathered (sum_of (scaled (pos 1) a) (scaled (negsuc 0) b)) (2 ^ 117) c.in_ok-all.all.items)
    c.as_slice.ensures.value c.as_slice-2.ensures.value c.in_ok-all.ensures in
    polynomial_of_same (sum_of (scaled (pos 1) c.args.self.now) (scaled (negsuc 0) c.args.other.now)) (difference_of c.args.self.now c.args.other.now)
    c.in_ok-all.all.items
    (second_turned c.args.self.now c.args.other.now) all.ordered

pub returns-clause-value : goal.returns-clause-value
returns-clause-value c =
    answers_value (difference_of c.args.self.now c.args.other.now) c.in_ok-all.all.items c.deref.result.now c.judged.result
    (gathered c) c.deref.ensures.value c.judged.ensures.value

pub returns-clause-wide : goal.returns-clause-wide
returns-clause-wide c =
    answers_wide (difference_of c.args.self.now c.args.other.now) c.in_ok-all.all.items c.deref.result.now c.judged.result
    (gathered c) c.deref.ensures.value c.judged.ensures.wide
