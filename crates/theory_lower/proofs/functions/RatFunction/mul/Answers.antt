use Rattle.std.proofs.Common.{subst₂}
use Rattle.theory_polynomial.specs.Polynomial.{IsBeyond, product_of}
use Rattle.theory_polynomial.specs.RationalPolynomial.{IsQuotientBeyond, product_of_quotients}
use Rattle.theory_poly.specs.Answers.{WideWhere}
use Rattle.theory_lower.proofs.FunctionLaws.{paired_wide}
use Rattle.theory_lower.proofs.functions.RatFunction.mul.Goals as goal

pub returns-clause-wide : goal.returns-clause-wide
returns-clause-wide c =
    let a = c.args.self.now in
    let b = c.args.other.now in
    paired_wide (product_of_quotients a.top b.top) (product_of a.bottom b.bottom) c.mul-top.result c.mul.result c.paired.result
    (subst₂ (λ q r. WideWhere (IsQuotientBeyond (product_of_quotients q r)) c.mul-top.result) c.top.ensures.value c.top-2.ensures.value
    c.mul-top.ensures.wide)
    (subst₂ (λ P Q. WideWhere (IsBeyond (product_of P Q)) c.mul.result) c.bottom.ensures.value c.bottom-2.ensures.value c.mul.ensures.wide)
    c.paired.ensures
