use Rattle.std.proofs.Common.{◌≡◌, ◌+◌, drop}
use Rattle.std.specs.Prelude.{not}
use Rattle.std.specs.List.{list_any, position_or_len}
use Rattle.theory_decision.specs.Choice.{first_by, is_rarer}
use Rattle.theory_search.proofs.orders.rarest.Given as goal

abbrev pub invariant-loop-place : goal.invariant-loop-place
invariant-loop-place l = first_by is_rarer l.candidates
    ≡ l.place + position_or_len (λ c. not (list_any (λ d. is_rarer d c) l.candidates)) (drop l.place l.candidates)
