use Rattle.theory_polynomial.proofs.CoefficientLaws.{coefficient_at-append, coefficient_at-difference, coefficient_at-scaled}
use Rattle.theory_polynomial.proofs.laws.coefficients_of_operations.Goals as goal

pub returns-clause-sum : goal.returns-clause-sum
returns-clause-sum c = coefficient_at-append

pub returns-clause-difference : goal.returns-clause-difference
returns-clause-difference c = coefficient_at-difference

pub returns-clause-multiple : goal.returns-clause-multiple
returns-clause-multiple c = coefficient_at-scaled
