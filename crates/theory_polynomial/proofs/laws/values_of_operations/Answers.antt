use Rattle.theory_polynomial.proofs.PolynomialValues.{value_of_sum, value_of_product, value_of_scaled}
use Rattle.theory_polynomial.proofs.SignLaws.{difference_value}
use Rattle.theory_polynomial.proofs.laws.values_of_operations.Goals as goal

pub returns-clause-sum : goal.returns-clause-sum
returns-clause-sum c ts us p = (value_of_sum ts us p).is

pub returns-clause-difference : goal.returns-clause-difference
returns-clause-difference c ts us p = (difference_value ts us p).is

pub returns-clause-product : goal.returns-clause-product
returns-clause-product c ts us p = (value_of_product ts us p).is

pub returns-clause-multiple : goal.returns-clause-multiple
returns-clause-multiple c n ts p = (value_of_scaled n ts p).is
