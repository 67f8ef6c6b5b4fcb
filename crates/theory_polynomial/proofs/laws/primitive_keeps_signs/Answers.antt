use Rattle.theory_polynomial.proofs.PrimitiveLaws.{primitive_has_same_sign}
use Rattle.theory_polynomial.proofs.SingleForms.{primitive_single}
use Rattle.theory_polynomial.proofs.laws.primitive_keeps_signs.Goals as goal

pub returns-clause-unique : goal.returns-clause-unique
returns-clause-unique c = primitive_single

pub returns-clause-sign : goal.returns-clause-sign
returns-clause-sign c = primitive_has_same_sign
