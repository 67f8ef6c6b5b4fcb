use Rattle.std.proofs.Common.{◌≡◌, ◌+◌, ◌-◌}
use Rattle.theory_decision.specs.Search.{Run, Visits}
use Rattle.theory_signs.specs.Plain.{formula_of}
use Rattle.theory_search.specs.Runs.{progress_of}
use Rattle.theory_search.proofs.visit.+visit.Given as goal

abbrev pub decreases-visit : goal.decreases-visit
decreases-visit g l = 66 - l.depth

abbrev pub invariant-loop-k : goal.invariant-loop-k
invariant-loop-k g l =
    (l.simple ≡ l.initial.simple) × (l.plans ≡ l.initial.plans)
    × ((r : Run) → Visits l.keep l.policy.kind (l.depth + 1) l.x (formula_of l.initial.simple) l.k (progress_of l.progress) r
    → Visits l.keep l.policy.kind (l.depth + 1) l.x (formula_of l.initial.simple) 0 (progress_of l.initial.progress) r)
