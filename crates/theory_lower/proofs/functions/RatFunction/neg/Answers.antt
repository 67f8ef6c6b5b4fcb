use Rattle.std.proofs.Common.{subst}
use Rattle.theory_polynomial.specs.Polynomial.{IsBeyond}
use Rattle.theory_polynomial.specs.RationalPolynomial.{IsQuotientBeyond}
use Rattle.theory_lowering.specs.RationalFunction.{opposite_of_quotient}
use Rattle.theory_poly.specs.Answers.{WideWhere}
use Rattle.theory_lower.proofs.FunctionLaws.{paired_wide}
use Rattle.theory_lower.proofs.functions.RatFunction.neg.Goals as goal

pub returns-clause-wide : goal.returns-clause-wide
returns-clause-wide c =
    let a = c.args.self.now in
    paired_wide (opposite_of_quotient a.top) a.bottom c.opposite-top.result c.kept.result c.paired.result
    (subst (λ q. WideWhere (IsQuotientBeyond (opposite_of_quotient q)) c.opposite-top.result) c.top.ensures.value c.opposite-top.ensures.wide)
    (subst (λ P. WideWhere (IsBeyond P) c.kept.result) c.bottom.ensures.value c.kept.ensures.wide) c.paired.ensures
