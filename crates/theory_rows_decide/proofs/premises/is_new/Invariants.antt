use Rattle.std.proofs.Common.{drop}
use Rattle.theory_meaning.specs.Point.{IsNew}
use Rattle.theory_rows_decide.proofs.premises.is_new.Given as goal

abbrev pub invariant-loop-held : goal.invariant-loop-held
invariant-loop-held l = IsNew l.name (drop l.held-index l.names) → IsNew l.name l.names
