use Rattle.std.proofs.Common.{◌≡◌, ◌++◌}
use Rattle.theory_lower.proofs.lowering.both_lists.Given as goal

abbrev pub invariant-loop-formula : goal.invariant-loop-formula
invariant-loop-formula l = l.first.items ++ l.formula-iterator.rest.items ≡ l.fn.first.items ++ l.fn.second.items
