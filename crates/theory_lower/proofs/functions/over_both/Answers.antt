use Rattle.std.proofs.Common.{IfOk, Err, subst₂}
use Rattle.theory_polynomial.specs.Polynomial.{IsPolynomialOf, IsBeyond, product_of}
use Rattle.theory_polynomial.specs.RationalPolynomial.{Quotient, IsLowestOf, IsQuotientBeyond}
use Rattle.theory_lowering.specs.RationalFunction.{times}
use Rattle.theory_poly.specs.Answers.{WideWhere}
use Rattle.theory_lower.specs.Combined.{signed_sum}
use Rattle.theory_lower.proofs.FunctionLaws.{paired_value, paired_wide, second_wide, both_value, both_wide}
use Rattle.theory_lower.proofs.functions.over_both.Goals as goal

pub returns-in-Err-multiplied-clause-wide : goal.returns-in-Err-multiplied-clause-wide
returns-in-Err-multiplied-clause-wide c =
    second_wide (signed_sum c.args.minus) c.args.a.now c.args.b.now c.in-Err-multiplied.limit c.requires
    (subst₂ (λ q P. WideWhere {T = Quotient} (IsQuotientBeyond (times q P)) (Err c.in-Err-multiplied.limit)) c.top-2.ensures.value c.bottom-2.ensures.value
    c.in-Err-multiplied.ensures.wide)

pub returns-clause-value : goal.returns-clause-value
returns-clause-value c =
    let a = c.args.a.now in
    let b = c.args.b.now in
    let op = signed_sum c.args.minus in
    let x = c.in-Ok.first in
    let y = c.in-Ok-multiplied.second in
    both_value op a b x y c.paired.result c.requires
    (subst₂ (λ q P. IsLowestOf (times q P) x) c.top.ensures.value c.bottom.ensures.value c.in-Ok.ensures.value)
    (subst₂ (λ q P. IsLowestOf (times q P) y) c.top-2.ensures.value c.bottom-2.ensures.value c.in-Ok-multiplied.ensures.value)
    (paired_value (op x y) (product_of a.bottom b.bottom) c.added-top.result c.mul.result c.paired.result c.added-top.ensures.value
    (subst₂ (λ P Q. IfOk c.mul.result (IsPolynomialOf (product_of P Q))) c.bottom-3.ensures.value c.bottom-4.ensures.value c.mul.ensures.value)
    c.paired.ensures)

pub returns-clause-wide : goal.returns-clause-wide
returns-clause-wide c =
    let a = c.args.a.now in
    let b = c.args.b.now in
    let op = signed_sum c.args.minus in
    let x = c.in-Ok.first in
    let y = c.in-Ok-multiplied.second in
    both_wide op a b x y c.paired.result c.top.ensures.kept c.top-2.ensures.kept c.requires
    (subst₂ (λ q P. IsLowestOf (times q P) x) c.top.ensures.value c.bottom.ensures.value c.in-Ok.ensures.value)
    (subst₂ (λ q P. IsLowestOf (times q P) y) c.top-2.ensures.value c.bottom-2.ensures.value c.in-Ok-multiplied.ensures.value)
    (subst₂ (λ q P. ¬ IsQuotientBeyond (times q P)) c.top.ensures.value c.bottom.ensures.value c.in-Ok.ensures.wide)
    (subst₂ (λ q P. ¬ IsQuotientBeyond (times q P)) c.top-2.ensures.value c.bottom-2.ensures.value c.in-Ok-multiplied.ensures.wide)
    (paired_wide (op x y) (product_of a.bottom b.bottom) c.added-top.result c.mul.result c.paired.result c.added-top.ensures.wide
    (subst₂ (λ P Q. WideWhere (IsBeyond (product_of P Q)) c.mul.result) c.bottom-3.ensures.value c.bottom-4.ensures.value c.mul.ensures.wide)
    c.paired.ensures)
