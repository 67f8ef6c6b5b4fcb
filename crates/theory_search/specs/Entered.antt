-- What comes of a node before its branches are visited.
use Rattle.std.specs.Prelude.{◌≡◌, ℕ, ◌+◌, [], ◌∷◌, ◌++◌}
use Rattle.theory_meaning.specs.declared.words.Kind.{Kind}
use Rattle.theory_decision.specs.Choice.{Symbols}
use Rattle.theory_decision.specs.Finding.{Node, many_leaves}
use Rattle.theory_decision.specs.Search.{Progress, Run, goes_on, hit, over, first_failure, with_leaf, AreTooMany, below, Visit, Visits}
use Rattle.theory_formula.specs.Formula.{Formula}
use Rattle.theory_signs.specs.Plain.{formula_of}
use Rattle.theory_search.specs.declared.visit.Entered.{Entered}
use Rattle.theory_search.specs.declared.visit.Entered.TheVariants.{GoesOn, Hit, Over, Below}
use Rattle.theory_search.specs.Outcomes.{failure_of}
use Rattle.theory_search.specs.Runs.{CanBranch}

-- the visit is done, or visits of the branches make it one
abbrev pub IsEntered : Symbols → Kind → ℕ → Node → Progress → Progress → Entered → Type 0
IsEntered keep kind depth N s t GoesOn = Visit keep kind depth N s (goes_on t)
IsEntered keep kind depth N s t Hit = Visit keep kind depth N s (hit [])
IsEntered keep kind depth N s t (Over f) = Visit keep kind depth N s (over (first_failure t (failure_of f)))
IsEntered keep kind depth N s t (Below x F) =
    CanBranch depth x (formula_of F)
    × ((r : Run) → Visits keep kind (depth + 1) x (formula_of F) 0 t r → Visit keep kind depth N s (below x (formula_of F) r))

-- of a leaf: it is kept, or there would be too many with it
abbrev pub IsKept : Formula → Progress → Progress → Entered → Type 0
IsKept S s t GoesOn = ¬ AreTooMany (s.leaves ++ S ∷ []) × (t ≡ with_leaf S s)
IsKept S s t (Over f) = AreTooMany (s.leaves ++ S ∷ []) × (t ≡ s) × (failure_of f ≡ many_leaves)
IsKept S s t Hit = ⊥
IsKept S s t (Below x F) = ⊥
