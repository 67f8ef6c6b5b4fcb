use Rattle.std.proofs.Common.{◌≡◌, ◌++◌, drop, map}
use Rattle.theory_signs.specs.Plain.{formula_of}
use Rattle.theory_signed.specs.CommonPowers.{squares_from}
use Rattle.theory_signed.specs.Split.{symbol_is}
use Rattle.theory_simplify.proofs.splitting.on_squares.Given as goal

abbrev pub invariant-loop-x : goal.invariant-loop-x
invariant-loop-x l =
    map formula_of l.all.items ++ map (symbol_is l.signs) (squares_from l.x (drop l.x l.common)) ≡ map (symbol_is l.signs) (squares_from 0 l.common)
