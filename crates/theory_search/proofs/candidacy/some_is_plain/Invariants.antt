use Rattle.std.proofs.Common.{◌≡◌, drop, map}
use Rattle.std.specs.List.{list_any}
use Rattle.std.specs.Option.{is_some}
use Rattle.theory_formula.specs.Formula.{formulas_from}
use Rattle.theory_formula.specs.FormulaAtoms.{atoms_of_all}
use Rattle.theory_elimination.specs.TopEquation.{plain_equation_of}
use Rattle.theory_signs.specs.Plain.{formula_of}
use Rattle.theory_search.specs.Atoms.{IsStraight}
use Rattle.theory_search.proofs.candidacy.some_is_plain.Given as goal

abbrev pub invariant-loop-member : goal.invariant-loop-member
invariant-loop-member l = (list_any (λ G. is_some (plain_equation_of l.x G)) (map formula_of l.members)
    ≡ list_any (λ G. is_some (plain_equation_of l.x G)) (map formula_of (drop l.member-index l.members)))
    × IsStraight l.x (atoms_of_all (formulas_from (map formula_of (drop l.member-index l.members))))
