use Rattle.std.proofs.Common.{◌≡◌, map, take, drop}
use Rattle.theory_polynomial.specs.Polynomial.{IsPolynomial}
use Rattle.theory_formula.specs.Formula.{formulas_from, EachAtomOfAll}
use Rattle.theory_signs.specs.Plain.{formula_of}
use Rattle.theory_signed.specs.Split.{split}
use Rattle.theory_simplify.proofs.splitting.+split.Given as goal

abbrev pub invariant-split_all-loop-formula : goal.invariant-split_all-loop-formula
invariant-split_all-loop-formula l = record {
  written : map formula_of l.all.items ≡ map split (map formula_of (take l.formula-index l.formulas));
  ordered : EachAtomOfAll (λ P S. IsPolynomial P) (formulas_from (map formula_of (drop l.formula-index l.formulas)))
      → EachAtomOfAll (λ P S. IsPolynomial P) (formulas_from (map formula_of l.formulas));
}
