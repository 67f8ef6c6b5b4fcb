use Rattle.std.proofs.Common.{◌≡◌, false}
use Rattle.std.specs.List.{list_any}
use Rattle.theory_decision.specs.Choice.{symbols_from}
use Rattle.theory_search.specs.Atoms.{rows_of, is_other}
use Rattle.theory_search.proofs.atoms.has_others.Given as goal

abbrev pub invariant-loop-x : goal.invariant-loop-x
invariant-loop-x l = list_any (is_other l.keep (rows_of l.atoms)) (symbols_from 0 l.x) ≡ false
