use Rattle.std.proofs.Common.{◌≡◌, ◌+◌, ◌≤◌, drop}
use Rattle.std.specs.Prelude.{count_by}
use Rattle.theory_elimination.specs.TestPoint.{holds_symbol}
use Rattle.theory_search.specs.Atoms.{rows_of}
use Rattle.theory_search.proofs.atoms.holding.Given as goal

abbrev pub invariant-loop-atom : goal.invariant-loop-atom
invariant-loop-atom l = l.count + count_by (λ a. holds_symbol l.x a.0) (rows_of (drop l.atom-index l.atoms))
    ≡ count_by (λ a. holds_symbol l.x a.0) (rows_of l.atoms)
    × (l.count ≤ l.atom-index)
