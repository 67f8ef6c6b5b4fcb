use Rattle.std.proofs.Common.{◌≡◌, drop, map}
use Rattle.theory_formula.specs.Formula.{formulas_from}
use Rattle.theory_elimination.specs.SameFormula.{are_same}
use Rattle.theory_simplify.specs.Drafts.{draft_of}
use Rattle.theory_simplify.proofs.sameness.+same.Given as goal

abbrev pub invariant-are_same-loop-i : goal.invariant-are_same-loop-i
invariant-are_same-loop-i l =
    are_same (formulas_from (map draft_of (drop l.i l.firsts))) (formulas_from (map draft_of (drop l.i l.seconds)))
    ≡ are_same (formulas_from (map draft_of l.firsts)) (formulas_from (map draft_of l.seconds))
