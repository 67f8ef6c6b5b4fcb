use Rattle.std.proofs.Common.{subst}
use Rattle.theory_polynomial.specs.Polynomial.{IsPolynomial}
use Rattle.theory_lower.proofs.QuotientParts.{multiplied_value, multiplied_wide}
use Rattle.theory_lower.proofs.quotients.multiplied.Goals as goal

pub returns-clause-value : goal.returns-clause-value
returns-clause-value c =
    let copy = c.in_ok-copy.field-0 in
    multiplied_value c.args.q.now c.lowest-factor.result c.args.by.now copy c.mul.result
    (subst IsPolynomial c.in_ok-copy.ensures c.lowest-factor.ensures.ordered) c.in_ok-copy.ensures c.lowest-factor.ensures.value c.mul.ensures.value

pub returns-clause-wide : goal.returns-clause-wide
returns-clause-wide c =
    let copy = c.in_ok-copy.field-0 in
    multiplied_wide c.args.q.now c.lowest-factor.result c.args.by.now copy c.mul.result
    (subst IsPolynomial c.in_ok-copy.ensures c.lowest-factor.ensures.ordered) c.in_ok-copy.ensures c.lowest-factor.ensures.value c.mul.ensures.wide
