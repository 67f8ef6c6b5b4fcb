use Rattle.std.proofs.Common.{◌^◌, pos, subst₂}
use Rattle.theory_polynomial.specs.Polynomial.{scaled, sum_of, IsPolynomialOf}
use Rattle.theory_poly.specs.Kept.{IsGathered}
use Rattle.theory_poly.proofs.ScaleLaws.{polynomial_of_same, once_each}
use Rattle.theory_poly.proofs.AnswerLaws.{answers_value, answers_wide}
use Rattle.theory_poly.proofs.poly.Poly.add.Goals as goal

-- what was gathered is the sum
gathered : (c : goal.After-drop-all) → IsPolynomialOf (sum_of c.args.self.now c.args.other.now) c.in_ok-all.all.items
gathered c =
    let all = subst₂ (λ a b. IsGathered (sum_of (scaled (pos 1) a) (scaled (pos 1) b)) (2 ^ 117) c.in_ok-all.all.items)
    c.as_slice.ensures.value c.as_slice-2.ensures.value c.in_ok-all.ensures in
    polynomial_of_same (sum_of (scaled (pos 1) c.args.self.now) (scaled (pos 1) c.args.other.now)) (sum_of c.args.self.now c.args.other.now)
    c.in_ok-all.all.items
    (once_each c.args.self.now c.args.other.now) all.ordered

pub returns-clause-value : goal.returns-clause-value
returns-clause-value c =
    answers_value (sum_of c.args.self.now c.args.other.now) c.in_ok-all.all.items c.deref.result.now c.judged.result
    (gathered c) c.deref.ensures.value c.judged.ensures.value

pub returns-clause-wide : goal.returns-clause-wide
returns-clause-wide c =
    answers_wide (sum_of c.args.self.now c.args.other.now) c.in_ok-all.all.items c.deref.result.now c.judged.result
    (gathered c) c.deref.ensures.value c.judged.ensures.wide
