use Rattle.std.proofs.Common.{◌≡◌, ℕ, ℤ, unsigned_abs, IfOk, Err, ap, ◌∙◌, subst, subst₂, arith, w64}
use Rattle.std.proofs.lemmas.Int.{ints}
use mir.Val.{to_z, of_z}
use Rattle.theory_polynomial.specs.Polynomial.{IsPolynomialOf, IsCanonicalOf, IsContent, IsBeyond, product_of}
use Rattle.theory_polynomial.specs.RationalPolynomial.{Quotient, IsLowestOf, IsQuotientBeyond, product_of_quotients}
use Rattle.theory_lowering.specs.RationalFunction.{times, scale_of}
use Rattle.theory_poly.specs.Answers.{WideWhere}
use Rattle.theory_lower.proofs.FunctionLaws.{paired_value, paired_wide, over_value, over_wide, scaled_wide}
use Rattle.theory_lower.proofs.functions.divided.Goals as goal

pub returns-in-Err-clause-wide : goal.returns-in-Err-clause-wide
returns-in-Err-clause-wide c =
    let a = c.args.a.now in
    let b = c.args.b.now in
    let turned = c.in_ok-poly.turned in
    let poly = c.in_ok-poly.poly in
    let d : ℕ = unsigned_abs c.below-below.result in
    let g : ℕ = unsigned_abs c.content.result in
    let divisor : c.top-divisor.result.now ≡ b.top.top = c.top-divisor.ensures.value ∙ ap (λ (q : Quotient). q.top) c.top.ensures.value in
    let form = subst (λ P. IsCanonicalOf P turned poly) divisor c.in_ok-poly.ensures.value in
    let content = subst (λ P. IsContent P g) divisor c.content.ensures.value in
    let below : d ≡ b.top.below = ap unsigned_abs c.below-below.ensures.value ∙ ap (λ (q : Quotient). q.below) c.top-2.ensures.value in
    let small = c.below-below.ensures.kept.within.below in
    let over_is : to_z w64 (of_z w64 c.below-below.result) ≡ c.below-below.result = omega (arith, ints, c.below-below.ensures.value, small) in
    let under_is : to_z w64 (of_z w64 c.content.result) ≡ c.content.result = omega (arith, ints, c.content.ensures.positive, c.content.ensures.small) in
    scaled_wide a b turned poly g d c.top-3.ensures.kept c.top.ensures.kept form content below c.in-Err.limit
    (subst (λ q. WideWhere {T = Quotient} (IsQuotientBeyond (product_of_quotients q (scale_of turned d g))) (Err c.in-Err.limit)) c.top-3.ensures.value
    (subst₂ (λ (y z : ℤ). WideWhere {T = Quotient} (IsQuotientBeyond (product_of_quotients c.top-3.result.now (scale_of turned (unsigned_abs y) (unsigned_abs
    z)))) (Err c.in-Err.limit)) over_is under_is c.in-Err.ensures.wide))

pub returns-clause-value : goal.returns-clause-value
returns-clause-value c =
    let a = c.args.a.now in
    let b = c.args.b.now in
    let turned = c.in_ok-poly.turned in
    let poly = c.in_ok-poly.poly in
    let d : ℕ = unsigned_abs c.below-below.result in
    let g : ℕ = unsigned_abs c.content.result in
    let divisor : c.top-divisor.result.now ≡ b.top.top = c.top-divisor.ensures.value ∙ ap (λ (q : Quotient). q.top) c.top.ensures.value in
    let form = subst (λ P. IsCanonicalOf P turned poly) divisor c.in_ok-poly.ensures.value in
    let content = subst (λ P. IsContent P g) divisor c.content.ensures.value in
    let below : d ≡ b.top.below = ap unsigned_abs c.below-below.ensures.value ∙ ap (λ (q : Quotient). q.below) c.top-2.ensures.value in
    let small = c.below-below.ensures.kept.within.below in
    let over_is : to_z w64 (of_z w64 c.below-below.result) ≡ c.below-below.result = omega (arith, ints, c.below-below.ensures.value, small) in
    let under_is : to_z w64 (of_z w64 c.content.result) ≡ c.content.result = omega (arith, ints, c.content.ensures.positive, c.content.ensures.small) in
    let x = c.in-Ok.scaled in
    over_value a b turned poly g d c.top-3.ensures.kept c.top.ensures.kept form content below x c.paired.result
    (subst (λ q. IsLowestOf (product_of_quotients q (scale_of turned d g)) x) c.top-3.ensures.value
    (subst₂ (λ (y z : ℤ). IsLowestOf (product_of_quotients c.top-3.result.now (scale_of turned (unsigned_abs y) (unsigned_abs z))) x) over_is under_is
    c.in-Ok.ensures.value))
    (paired_value (times x b.bottom) (product_of a.bottom poly) c.multiplied-top.result c.mul.result c.paired.result
    (subst (λ P. IfOk c.multiplied-top.result (IsLowestOf (times x P))) c.bottom.ensures.value c.multiplied-top.ensures.value)
    (subst (λ P. IfOk c.mul.result (IsPolynomialOf (product_of P poly))) c.bottom-2.ensures.value c.mul.ensures.value) c.paired.ensures)

pub returns-clause-wide : goal.returns-clause-wide
returns-clause-wide c =
    let a = c.args.a.now in
    let b = c.args.b.now in
    let turned = c.in_ok-poly.turned in
    let poly = c.in_ok-poly.poly in
    let d : ℕ = unsigned_abs c.below-below.result in
    let g : ℕ = unsigned_abs c.content.result in
    let divisor : c.top-divisor.result.now ≡ b.top.top = c.top-divisor.ensures.value ∙ ap (λ (q : Quotient). q.top) c.top.ensures.value in
    let form = subst (λ P. IsCanonicalOf P turned poly) divisor c.in_ok-poly.ensures.value in
    let content = subst (λ P. IsContent P g) divisor c.content.ensures.value in
    let below : d ≡ b.top.below = ap unsigned_abs c.below-below.ensures.value ∙ ap (λ (q : Quotient). q.below) c.top-2.ensures.value in
    let small = c.below-below.ensures.kept.within.below in
    let over_is : to_z w64 (of_z w64 c.below-below.result) ≡ c.below-below.result = omega (arith, ints, c.below-below.ensures.value, small) in
    let under_is : to_z w64 (of_z w64 c.content.result) ≡ c.content.result = omega (arith, ints, c.content.ensures.positive, c.content.ensures.small) in
    let x = c.in-Ok.scaled in
    over_wide a b turned poly g d c.top-3.ensures.kept c.top.ensures.kept form content below x c.paired.result
    (subst (λ q. IsLowestOf (product_of_quotients q (scale_of turned d g)) x) c.top-3.ensures.value
    (subst₂ (λ (y z : ℤ). IsLowestOf (product_of_quotients c.top-3.result.now (scale_of turned (unsigned_abs y) (unsigned_abs z))) x) over_is under_is
    c.in-Ok.ensures.value))
    (subst (λ q. ¬ IsQuotientBeyond (product_of_quotients q (scale_of turned d g))) c.top-3.ensures.value
    (subst₂ (λ (y z : ℤ). ¬ IsQuotientBeyond (product_of_quotients c.top-3.result.now (scale_of turned (unsigned_abs y) (unsigned_abs z)))) over_is under_is
    c.in-Ok.ensures.wide))
    (paired_wide (times x b.bottom) (product_of a.bottom poly) c.multiplied-top.result c.mul.result c.paired.result
    (subst (λ P. WideWhere (IsQuotientBeyond (times x P)) c.multiplied-top.result) c.bottom.ensures.value c.multiplied-top.ensures.wide)
    (subst (λ P. WideWhere (IsBeyond (product_of P poly)) c.mul.result) c.bottom-2.ensures.value c.mul.ensures.wide) c.paired.ensures)
