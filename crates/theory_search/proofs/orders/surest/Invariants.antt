use Rattle.std.proofs.Common.{◌≡◌, ◌+◌, drop}
use Rattle.std.specs.Prelude.{not}
use Rattle.std.specs.List.{list_any, position_or_len}
use Rattle.theory_decision.specs.Choice.{first_by, is_surer}
use Rattle.theory_search.proofs.orders.surest.Given as goal

abbrev pub invariant-loop-place : goal.invariant-loop-place
invariant-loop-place l = first_by is_surer l.candidates
    ≡ l.place + position_or_len (λ c. not (list_any (λ d. is_surer d c) l.candidates)) (drop l.place l.candidates)
