use Rattle.std.proofs.Common.{◌≡◌, drop}
use Rattle.std.specs.List.{list_any}
use Rattle.theory_elimination.specs.TestPoint.{holds_symbol}
use Rattle.theory_search.specs.Atoms.{rows_of}
use Rattle.theory_search.proofs.atoms.occurs.Given as goal

abbrev pub invariant-loop-atom : goal.invariant-loop-atom
invariant-loop-atom l = list_any (λ a. holds_symbol l.x a.0) (rows_of l.atoms)
    ≡ list_any (λ a. holds_symbol l.x a.0) (rows_of (drop l.atom-index l.atoms))
