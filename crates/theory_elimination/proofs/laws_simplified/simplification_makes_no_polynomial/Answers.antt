use Rattle.std.specs.Prelude.{IsTrue}
use Rattle.theory_polynomial.specs.Polynomial.{IsFreeOf}
use Rattle.theory_formula.specs.SignCondition.{IsAtomPolynomial}
use Rattle.theory_elimination.proofs.SimplifiedAtoms.{simplified_each, simplified_linear, simplified_named}
use Rattle.theory_elimination.proofs.laws_simplified.simplification_makes_no_polynomial.Goals as goal

pub returns-clause-test : goal.returns-clause-test
returns-clause-test c test = simplified_each (λ P. IsTrue (test P))

pub returns-clause-proper : goal.returns-clause-proper
returns-clause-proper c = simplified_each IsAtomPolynomial

pub returns-clause-linear : goal.returns-clause-linear
returns-clause-linear c = simplified_linear

pub returns-clause-free : goal.returns-clause-free
returns-clause-free c x = simplified_each (IsFreeOf x)

pub returns-clause-named : goal.returns-clause-named
returns-clause-named c = simplified_named
