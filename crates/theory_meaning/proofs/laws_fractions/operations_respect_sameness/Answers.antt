use Rattle.theory_meaning.proofs.ValueLaws.{sum_respects, difference_respects, product_respects, opposite_respects, quotient_respects, power_respects}
use Rattle.theory_meaning.proofs.laws_fractions.operations_respect_sameness.Goals as goal

pub returns-clause-sum : goal.returns-clause-sum
returns-clause-sum c = sum_respects

pub returns-clause-difference : goal.returns-clause-difference
returns-clause-difference c = difference_respects

pub returns-clause-product : goal.returns-clause-product
returns-clause-product c = product_respects

pub returns-clause-quotient : goal.returns-clause-quotient
returns-clause-quotient c = quotient_respects

pub returns-clause-opposite : goal.returns-clause-opposite
returns-clause-opposite c = opposite_respects

pub returns-clause-power : goal.returns-clause-power
returns-clause-power c = power_respects
