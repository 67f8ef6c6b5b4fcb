-- The plain trees that formulas stand for.
use Rattle.theory_formula.specs.Formula as plain
use Rattle.theory_signs.specs.declared.formula.Formula.{Formula}
use Rattle.theory_signs.specs.declared.formula.Formula.TheOpen.{Formula-F}
use Rattle.theory_signs.specs.declared.formula.Formula.TheFolds.{fold-Formula}

-- one node, with the tree of each child in its place
abbrev pub formula_step : Formula-F plain.Formula → plain.Formula
formula_step Formula-F.True = plain.always
formula_step Formula-F.False = plain.never
formula_step (Formula-F.Atom a) = plain.atom a.poly a.signs
formula_step (Formula-F.And Fs) = plain.conjunction (plain.formulas_from Fs.items)
formula_step (Formula-F.Or Fs) = plain.disjunction (plain.formulas_from Fs.items)

-- a formula
abbrev pub formula_of : Formula → plain.Formula
formula_of = fold-Formula plain.Formula formula_step
