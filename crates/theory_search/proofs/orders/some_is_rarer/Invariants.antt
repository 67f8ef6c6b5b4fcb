use Rattle.std.proofs.Common.{◌≡◌, drop}
use Rattle.std.specs.List.{list_any}
use Rattle.theory_decision.specs.Choice.{is_rarer}
use Rattle.theory_search.proofs.orders.some_is_rarer.Given as goal

abbrev pub invariant-loop-candidate : goal.invariant-loop-candidate
invariant-loop-candidate l = list_any (λ d. is_rarer d l.than) l.candidates ≡ list_any (λ d. is_rarer d l.than) (drop l.candidate-index l.candidates)
