use Rattle.theory_polynomial.proofs.SignLaws.{restriction_free, restriction_sign}
use Rattle.theory_polynomial.proofs.laws.restriction_keeps_signs.Goals as goal

pub returns-clause-free : goal.returns-clause-free
returns-clause-free c = restriction_free

pub returns-clause-sign : goal.returns-clause-sign
returns-clause-sign c = restriction_sign
