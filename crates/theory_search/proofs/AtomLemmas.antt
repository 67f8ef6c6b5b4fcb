-- The atoms of members one after the other.
use Rattle.std.proofs.Common.{◌≡◌, List, ◌++◌}
use Rattle.theory_formula.specs.declared.signs.Signs.{Signs}
use Rattle.theory_polynomial.specs.Polynomial.{Monomial}
use Rattle.theory_formula.specs.Formula.{formulas_from, EachAtomOfAll}
use Rattle.theory_formula.specs.Formula as tree
use Rattle.theory_formula.specs.FormulaAtoms.{atoms_of_all}
use Rattle.theory_formula.specs.SignCondition.{IsAtomPolynomial}

-- what is left of the members adds the same atoms
pub record AddsRest (all rest : List tree.Formula) (old now : List (List Monomial × Signs)) : Type 0 where
  pub grown : now ++ atoms_of_all (formulas_from rest) ≡ old ++ atoms_of_all (formulas_from all)
  pub proper : EachAtomOfAll (λ P S. IsAtomPolynomial P) (formulas_from rest) → EachAtomOfAll (λ P S. IsAtomPolynomial P) (formulas_from all)
