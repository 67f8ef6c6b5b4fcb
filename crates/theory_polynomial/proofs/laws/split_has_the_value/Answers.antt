use Rattle.theory_polynomial.proofs.SignLaws.{split_value}
use Rattle.theory_polynomial.proofs.laws.split_has_the_value.Goals as goal

pub returns : goal.returns
returns c x ts a b p h = (split_value x ts a b p h).is
