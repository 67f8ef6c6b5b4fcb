-- The search for a point of a formula, and for the leaves of it over kept symbols. Source: this project's own.
use Rattle.std.specs.Prelude.{◌≡◌, ℕ, ◌+◌, ◌<◌, ◌≤◌, ◌⊎◌, List, [], ◌∷◌, ◌++◌, length, Option, None, Some}
use Rattle.std.specs.Option.{unwrap_or}
use Rattle.theory_meaning.specs.declared.words.Kind.{Kind}
use Rattle.theory_formula.specs.Formula.{Formula, disjunction, formulas_from}
use Rattle.theory_elimination.specs.Branches.{branch_plans}
use Rattle.theory_decision.specs.Choice.{Symbols}
use Rattle.theory_decision.specs.Finding.{Failure, budget, many_leaves, Node, reached, IsNode, nowhere, everywhere, fails, leaf, eliminates, finding, size_of}

-- a formula and the symbol that is eliminated from it
pub record Step : Type 0 where
  pub formula : Formula
  pub symbol : ℕ

-- how far a run has come: the nodes visited, the first failure that was met, the leaves in their order
pub record Progress : Type 0 where
  pub visited : ℕ
  pub failure : Option Failure
  pub leaves : List Formula

-- what comes of a visit: the run goes on, a formula is true everywhere at the end of a path, or the run is over
pub data Run : Type 0 where
  goes_on : Progress → Run
  hit : List Step → Run
  over : Failure → Run

-- the first failure, where this one is met now
abbrev pub first_failure : Progress → Failure → Failure
first_failure s f = unwrap_or s.failure f

-- one more node
abbrev pub counted : Progress → Progress
counted s = record { visited = s.visited + 1; failure = s.failure; leaves = s.leaves }

-- one more node, with a failure at it
abbrev pub met : Failure → Progress → Progress
met f s = record { visited = s.visited + 1; failure = Some (first_failure s f); leaves = s.leaves }

-- one more node, with a leaf at it
abbrev pub with_leaf : Formula → Progress → Progress
with_leaf S s = record { visited = s.visited + 1; failure = s.failure; leaves = s.leaves ++ S ∷ [] }

-- more than 4096 leaves, or more than 16384 atoms in them
abbrev pub AreTooMany : List Formula → Type 0
AreTooMany leaves = (4096 < length leaves) ⊎ (16384 < size_of (disjunction (formulas_from leaves)))

-- a hit below a formula has it as the first step of its path
abbrev pub below : ℕ → Formula → Run → Run
below x S (hit path) = hit (record { formula = S; symbol = x } ∷ path)
below x S r = r

mutual
  -- a visit of a node at a depth, with the progress before it and what comes of it
  pub data Visit (keep : Symbols) (kind : Kind) : ℕ → Node → Progress → Run → Type 0 where
    spent : {d : ℕ} {N : Node} {s : Progress} → 20000 ≤ s.visited → Visit keep kind d N s (over (first_failure s budget))
    closed : {d : ℕ} {N : Node} {s : Progress} → s.visited < 20000 → finding keep kind d N ≡ nowhere → Visit keep kind d N s (goes_on (counted s))
    found : {d : ℕ} {N : Node} {s : Progress} → s.visited < 20000 → finding keep kind d N ≡ everywhere → Visit keep kind d N s (hit [])
    failed : {d : ℕ} {N : Node} {s : Progress} {f : Failure} → s.visited < 20000 → finding keep kind d N ≡ fails f
        → Visit keep kind d N s (goes_on (met f s))
    kept : {d : ℕ} {N : Node} {s : Progress} {S : Formula} → s.visited < 20000 → finding keep kind d N ≡ leaf S
        → ¬ AreTooMany (s.leaves ++ S ∷ []) → Visit keep kind d N s (goes_on (with_leaf S s))
    dropped : {d : ℕ} {N : Node} {s : Progress} {S : Formula} → s.visited < 20000 → finding keep kind d N ≡ leaf S
        → AreTooMany (s.leaves ++ S ∷ []) → Visit keep kind d N s (over (first_failure s many_leaves))
    branched : {d : ℕ} {N : Node} {s : Progress} {x : ℕ} {S : Formula} {r : Run} → s.visited < 20000 → finding keep kind d N ≡ eliminates x S
        → Visits keep kind (d + 1) x S 0 (counted s) r → Visit keep kind d N s (below x S r)

  -- visits of the branches of a formula in a symbol, in their order from the k-th on
  pub data Visits (keep : Symbols) (kind : Kind) : ℕ → ℕ → Formula → ℕ → Progress → Run → Type 0 where
    past : {d x k : ℕ} {S : Formula} {s : Progress} → length (branch_plans x S) ≤ k → Visits keep kind d x S k s (goes_on s)
    next : {d x k : ℕ} {S : Formula} {s t : Progress} {N : Node} {r : Run} → IsNode x S k N → Visit keep kind d N s (goes_on t)
        → Visits keep kind d x S (k + 1) t r → Visits keep kind d x S k s r
    hits : {d x k : ℕ} {S : Formula} {s : Progress} {N : Node} {path : List Step} → IsNode x S k N → Visit keep kind d N s (hit path)
        → Visits keep kind d x S k s (hit path)
    ends : {d x k : ℕ} {S : Formula} {s : Progress} {N : Node} {f : Failure} → IsNode x S k N → Visit keep kind d N s (over f)
        → Visits keep kind d x S k s (over f)

-- nothing visited yet
abbrev pub start : Progress
start = record { visited = 0; failure = None; leaves = [] }

-- the run from the formula at depth 0
abbrev pub IsRun : Symbols → Kind → Formula → Run → Type 0
IsRun keep kind F r = Visit keep kind 0 (reached F) start r
