use Rattle.std.proofs.Common.{◌≡◌, ◌++◌, drop}
use Rattle.theory_edge.proofs.row.Rows.copy.Given as goal

abbrev pub invariant-loop-row : goal.invariant-loop-row
invariant-loop-row l = l.copies ++ drop l.row-index l.row-items ≡ l.self
