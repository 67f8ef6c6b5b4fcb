-- The rules of a visit, with what the program has after it.
use Rattle.std.proofs.Common.{Result, Ok, Err, IfOk, length, ◌≡◌, ℕ, ◌+◌, ◌<◌, ◌≤◌, List, [], ◌∷◌, ◌++◌, sym, subst}
use Rattle.theory_meaning.specs.declared.words.Kind.{Kind}
use Rattle.theory_formula.specs.Formula.{Formula}
use Rattle.theory_decision.specs.Choice.{Symbols}
use Rattle.theory_decision.specs.Finding.{Failure, Node, IsNode, nowhere, everywhere, fails, leaf, eliminates, finding, budget, many_leaves}
use Rattle.theory_decision.specs.Search.{Step, Progress, Run, goes_on, hit, over, first_failure, counted, met, with_leaf, AreTooMany, below, Visit, Visits, spent, closed, found, failed, kept, dropped, branched, past, next, hits, ends}
use Rattle.theory_elimination.specs.Branches.{branch_plans}
use Rattle.theory_points.specs.declared.limit.NoMemory.{NoMemory}
use Rattle.theory_search.specs.declared.progress.Progress as source
use Rattle.theory_search.specs.declared.progress.Run as source_run
use Rattle.theory_search.specs.declared.visit.Entered.{Entered}
use Rattle.theory_search.specs.declared.visit.Entered.TheVariants.{GoesOn, Hit, Over, Below}
use Rattle.theory_search.specs.Entered.{IsEntered, IsKept}
use Rattle.theory_search.specs.Outcomes.{failure_of}
use Rattle.theory_search.specs.Runs.{run_of}

module _ (keep : Symbols) (kind : Kind) (d : ℕ) (N : Node) (s : Progress) where
  pub spent_here : 20000 ≤ s.visited → Visit keep kind d N s (over (first_failure s budget))
  spent_here h = spent h

  pub closed_here : (t : Progress) → s.visited < 20000 → finding keep kind d N ≡ nowhere → t ≡ counted s → Visit keep kind d N s (goes_on t)
  closed_here t h e same = subst (λ u. Visit keep kind d N s (goes_on u)) (sym same) (closed h e)

  pub found_here : s.visited < 20000 → finding keep kind d N ≡ everywhere → Visit keep kind d N s (hit [])
  found_here h e = found h e

  pub failed_here : (t : Progress) (f : Failure) → s.visited < 20000 → finding keep kind d N ≡ fails f → t ≡ met f s → Visit keep kind d N s (goes_on t)
  failed_here t f h e same = subst (λ u. Visit keep kind d N s (goes_on u)) (sym same) (failed h e)

  pub kept_here : (t : Progress) (S : Formula) → s.visited < 20000 → finding keep kind d N ≡ leaf S → ¬ AreTooMany (s.leaves ++ S ∷ []) → t ≡ with_leaf S s
      → Visit keep kind d N s (goes_on t)
  kept_here t S h e n same = subst (λ u. Visit keep kind d N s (goes_on u)) (sym same) (kept h e n)

  pub dropped_here : (t : Progress) (f : Failure) (S : Formula) → s.visited < 20000 → finding keep kind d N ≡ leaf S → AreTooMany (s.leaves ++ S ∷ []) → t ≡ s
      → f ≡ many_leaves → Visit keep kind d N s (over (first_failure t f))
  dropped_here t f S h e n same last =
      subst (λ u. Visit keep kind d N s (over (first_failure u f))) (sym same)
      (subst (λ g. Visit keep kind d N s (over (first_failure s g))) (sym last) (dropped h e n))

  pub branched_here : (t : Progress) (x : ℕ) (S : Formula) → s.visited < 20000 → finding keep kind d N ≡ eliminates x S → t ≡ counted s
      → (r : Run) → Visits keep kind (d + 1) x S 0 t r → Visit keep kind d N s (below x S r)
  branched_here t x S h e same r v = branched h e (subst (λ u. Visits keep kind (d + 1) x S 0 u r) same v)

-- visits of the branches, while they go on
module _ (keep : Symbols) (kind : Kind) (d : ℕ) (N : Node) (s t : Progress) (x : ℕ) (S : Formula) where
  abbrev pub Continues : Type 0
  Continues = (r : Run) → Visits keep kind (d + 1) x S 0 t r → Visit keep kind d N s (below x S r)

  abbrev pub Reaches : ℕ → Progress → Type 0
  Reaches k u = (r : Run) → Visits keep kind (d + 1) x S k u r → Visits keep kind (d + 1) x S 0 t r

  pub hit_here : (k : ℕ) (u : Progress) (M : Node) (path : List Step) → Continues → Reaches k u → IsNode x S k M
      → Visit keep kind (d + 1) M u (hit path) → Visit keep kind d N s (below x S (hit path))
  hit_here k u M path on at n v = on (hit path) (at (hit path) (hits n v))

  pub over_here : (k : ℕ) (u : Progress) (M : Node) (f : Failure) → Continues → Reaches k u → IsNode x S k M
      → Visit keep kind (d + 1) M u (over f) → Visit keep kind d N s (over f)
  over_here k u M f on at n v = on (over f) (at (over f) (ends n v))

  pub next_here : (k : ℕ) (u w : Progress) (M : Node) → Reaches k u → IsNode x S k M → Visit keep kind (d + 1) M u (goes_on w) → Reaches (k + 1) w
  next_here k u w M at n v = λ r more. at r (next n v more)

  pub past_here : (k : ℕ) (u : Progress) → Continues → Reaches k u → length (branch_plans x S) ≤ k → Visit keep kind d N s (goes_on u)
  past_here k u on at h = on (goes_on u) (at (goes_on u) (past h))

pub returned : (keep : Symbols) (kind : Kind) (d : ℕ) (N : Node) (s : Progress) (q : Run) (result : Result source_run.Run NoMemory) (p : source.Progress)
    → IfOk result (λ r. (u : source.Progress) → run_of r u ≡ q) → Visit keep kind d N s q → IfOk result (λ r. Visit keep kind d N s (run_of r p))
returned keep kind d N s q (Ok r) p e v = subst (Visit keep kind d N s) (sym (e p)) v
returned keep kind d N s q (Err m) p e v = tt

-- a leaf is entered, by what comes of it
pub leaf_here : (keep : Symbols) (kind : Kind) (d : ℕ) (N : Node) (s t : Progress) (S : Formula) (result : Result Entered NoMemory) → s.visited < 20000
    → finding keep kind d N ≡ leaf S → IfOk result (IsKept S s t) → IfOk result (IsEntered keep kind d N s t)
leaf_here keep kind d N s t S (Ok GoesOn) h e k = kept_here keep kind d N s t S h e k.0 k.1
leaf_here keep kind d N s t S (Ok (Over f)) h e k = dropped_here keep kind d N s t (failure_of f) S h e k.0 k.1 k.2
leaf_here keep kind d N s t S (Ok Hit) h e k = absurd k
leaf_here keep kind d N s t S (Ok (Below x F)) h e k = absurd k
leaf_here keep kind d N s t S (Err m) h e k = tt
