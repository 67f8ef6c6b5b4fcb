use Rattle.theory_poly.proofs.HashLaws.{told_apart}
use Rattle.theory_poly.proofs.laws.equal_polynomials_are_the_same.Goals as goal

pub returns : goal.returns
returns c P Q = told_apart P Q
