use Rattle.theory_polynomial.specs.Polynomial.{IsFreeOf}
use Rattle.theory_formula.specs.SignCondition.{IsAtomPolynomial}
use Rattle.theory_signed.proofs.SignedAtoms.{signed_each}
use Rattle.theory_signed.proofs.laws_simplified.simplification_by_signs_makes_no_polynomial.Goals as goal

pub returns-clause-proper : goal.returns-clause-proper
returns-clause-proper c = signed_each IsAtomPolynomial

pub returns-clause-free : goal.returns-clause-free
returns-clause-free c x = signed_each (IsFreeOf x)
