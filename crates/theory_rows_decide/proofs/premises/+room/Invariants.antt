use Rattle.std.proofs.Common.{◌≡◌, ◌+◌, drop, map, length}
use Rattle.theory_formula.specs.Formula.{formulas_from}
use Rattle.theory_formula.specs.FormulaAtoms.{atoms_of_all}
use Rattle.theory_signs.specs.Plain.{formula_of}
use Rattle.theory_rows_decide.proofs.premises.+room.Given as goal

abbrev pub invariant-room_beside_all-loop-member : goal.invariant-room_beside_all-loop-member
invariant-room_beside_all-loop-member l =
    l.left + length (atoms_of_all (formulas_from (map formula_of l.members)))
    ≡ l.room + length (atoms_of_all (formulas_from (map formula_of (drop l.member-index l.members))))
