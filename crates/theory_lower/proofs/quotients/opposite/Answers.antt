use Rattle.theory_polynomial.specs.RationalPolynomial.{difference_of_quotients}
use Rattle.theory_lower.proofs.QuotientParts.{opposite_value, opposite_wide}
use Rattle.theory_lower.proofs.quotients.opposite.Goals as goal

pub returns-clause-value : goal.returns-clause-value
returns-clause-value c =
    opposite_value c.args.of.now c.in_ok-zero.zero c.sub.result difference_of_quotients c.in_ok-zero.ensures.value c.sub.ensures.value

pub returns-clause-wide : goal.returns-clause-wide
returns-clause-wide c =
    opposite_wide c.args.of.now c.in_ok-zero.zero c.sub.result difference_of_quotients c.in_ok-zero.ensures.value c.sub.ensures.wide
