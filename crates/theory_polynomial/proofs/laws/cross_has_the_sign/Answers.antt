use Rattle.theory_polynomial.proofs.SignLaws.{cross_sign}
use Rattle.theory_polynomial.proofs.laws.cross_has_the_sign.Goals as goal

pub returns : goal.returns
returns c = cross_sign
