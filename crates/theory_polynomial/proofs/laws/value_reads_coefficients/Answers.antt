use Rattle.theory_polynomial.proofs.CoefficientLaws.{same_turned}
use Rattle.theory_polynomial.proofs.PolynomialValues.{value_of_same, sign_of_same_map}
use Rattle.theory_polynomial.proofs.laws.value_reads_coefficients.Goals as goal

pub returns-clause-value : goal.returns-clause-value
returns-clause-value c ts us p h = (value_of_same ts us p h).is

pub returns-clause-sign : goal.returns-clause-sign
returns-clause-sign c ts us h p s = (sign_of_same_map ts us p s h, sign_of_same_map us ts p s (same_turned ts us h))
