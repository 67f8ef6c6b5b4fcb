use Rattle.theory_polynomial.proofs.FixedOrder.{polynomial_unique}
use Rattle.theory_polynomial.proofs.laws.polynomial_is_unique.Goals as goal

pub returns : goal.returns
returns c = polynomial_unique
