-- The atoms on which a search is stuck hold only symbols that the formula holds.
use Rattle.std.proofs.Common.{◌≡◌, ℕ, ◌+◌, true, false, List, [], ◌∷◌, ◌++◌, Option, None, Some, sym, subst}
use Rattle.std.specs.Prelude.{nat_lt, flat_map, if◌then◌else◌}
use Rattle.theory_meaning.specs.declared.words.Kind.{Kind}
use Rattle.theory_polynomial.specs.Polynomial.{IsFreeOf, degree_in}
use Rattle.theory_formula.specs.Formula.{Formula, always, never, atom, conjunction, disjunction}
use Rattle.theory_formula.specs.FormulaAtoms.{atoms_of}
use Rattle.theory_formula.specs.Symbols.{IsFree}
use Rattle.theory_elimination.proofs.AtomLists.{Row, EachRow, rows_of_atoms}
use Rattle.theory_elimination.proofs.BranchAtoms.{branch_stays_free}
use Rattle.theory_signed.specs.ByKind.{simplified_for}
use Rattle.theory_signed.proofs.KindAtoms.{kind_free}
use Rattle.theory_decision.specs.Choice.{Symbols, others, candidates, chosen}
use Rattle.theory_decision.specs.Finding.{StuckAtom, stuck_at, Failure, AreFreeOf, IsFreeFailure, large, budget, many_leaves, Node, reached, too_wide, IsNode, Finding, nowhere, everywhere, fails, leaf, eliminates, is_large, finding_by, open_finding, finding_in, finding}
use Rattle.theory_decision.specs.Search.{Progress, Run, goes_on, hit, over, first_failure, counted, below, Visit, spent, closed, found, failed, kept, dropped, branched, Visits, past, next, hits, ends, start}
use Rattle.theory_decision.specs.Outcomes.{failed_by, IsOutcome, IsSearch, failed_before, leaves_by, leaves_of, AreLeaves}
use Rattle.theory_decision.proofs.Findings.{found_says}

module _ (y : ℕ) where
  abbrev IsFreeMet : Option Failure → Type 0
  IsFreeMet None = Unit {0}
  IsFreeMet (Some f) = IsFreeFailure y f

  abbrev IsFreeRun : Run → Type 0
  IsFreeRun (goes_on t) = IsFreeMet t.failure
  IsFreeRun (hit path) = Unit {0}
  IsFreeRun (over f) = IsFreeFailure y f

  abbrev IsFreeNode : Node → Type 0
  IsFreeNode (reached F) = IsFree y F
  IsFreeNode too_wide = Unit {0}

  free_append : (atoms more_atoms : List StuckAtom) → AreFreeOf y atoms → AreFreeOf y more_atoms → AreFreeOf y (atoms ++ more_atoms)
  free_append [] more_atoms h k = k
  free_append (a ∷ atoms) more_atoms h k = (h.0, free_append atoms more_atoms h.1 k)

  free_at : (x : ℕ) (rows : List Row) → EachRow (λ P S. IsFreeOf y P) rows → AreFreeOf y (stuck_at x rows)
  free_at x [] h = tt
  free_at x (a ∷ rows) h =
      elim (nat_lt 1 (degree_in x a.0))
      as (λ b. AreFreeOf y (if b then record { symbol = x; poly = a.0; signs = a.1 } ∷ [] else stuck_at x rows)) [
        | true ↦ (h.0, tt)
        | false ↦ free_at x rows h.1
      ]

  free_all : (xs : Symbols) (rows : List Row) → EachRow (λ P S. IsFreeOf y P) rows → AreFreeOf y (flat_map (λ x. stuck_at x rows) xs)
  free_all [] rows h = tt
  free_all (x ∷ xs) rows h = free_append (stuck_at x rows) (flat_map (λ z. stuck_at z rows) xs) (free_at x rows h) (free_all xs rows h)

  free_first : (s : Progress) (f : Failure) → IsFreeMet s.failure → IsFreeFailure y f → IsFreeFailure y (first_failure s f)
  free_first s f h k =
      elim s.failure as (λ o. IsFreeMet o → IsFreeFailure y (first_failure (record { visited = s.visited; failure = o; leaves = s.leaves }) f)) [
        | None ↦ λ m. k
        | Some g ↦ λ m. m
      ] h

  module _ (keep : Symbols) (kind : Kind) where
    abbrev FailsFree : Finding → Type 0
    FailsFree nowhere = Unit {0}
    FailsFree everywhere = Unit {0}
    FailsFree (fails f) = IsFreeFailure y f
    FailsFree (leaf S) = Unit {0}
    FailsFree (eliminates x S) = Unit {0}

    free_by : (S : Formula) (xs : Symbols) (o : Option ℕ) → IsFree y S → FailsFree (finding_by keep S xs o)
    free_by S [] o h = tt
    free_by S (x ∷ xs) None h = free_all (others keep S) (atoms_of S) (rows_of_atoms (λ P T. IsFreeOf y P) S h)
    free_by S (x ∷ xs) (Some z) h = tt

    free_open : (d : ℕ) (S : Formula) → IsFree y S → FailsFree (open_finding keep kind d S)
    free_open d S h =
        elim (is_large d S)
        as (λ b. FailsFree (if b then fails large else finding_by keep S (others keep S) (chosen kind (candidates keep S)))) [
          | true ↦ tt
          | false ↦ free_by S (others keep S) (chosen kind (candidates keep S)) h
        ]

    free_in : (d : ℕ) (S : Formula) → IsFree y S → FailsFree (finding_in keep kind d S)
    free_in d always h = tt
    free_in d never h = tt
    free_in d (atom P T) h = free_open d (atom P T) h
    free_in d (conjunction Fs) h = free_open d (conjunction Fs) h
    free_in d (disjunction Fs) h = free_open d (disjunction Fs) h

    free_finding : (d : ℕ) (N : Node) → IsFreeNode N → FailsFree (finding keep kind d N)
    free_finding d too_wide h = tt
    free_finding d (reached F) h = free_in d (simplified_for kind F) (kind_free y kind F h)

    fails_free : (d : ℕ) (N : Node) (f : Failure) → IsFreeNode N → finding keep kind d N ≡ fails f → IsFreeFailure y f
    fails_free d N f h e = subst FailsFree e (free_finding d N h)

    eliminates_free : (d x : ℕ) (N : Node) (S : Formula) → IsFreeNode N → finding keep kind d N ≡ eliminates x S → IsFree y S
    eliminates_free d x too_wide S h e = absurd cc
    eliminates_free d x (reached F) S h e = subst (IsFree y) (found_says keep kind d F (eliminates x S) e).0 (kind_free y kind F h)

    free_node : (x k : ℕ) (S : Formula) (N : Node) → IsFree y S → IsNode x S k N → IsFreeNode N
    free_node x k S (reached G) h n = branch_stays_free x y S k G h n.0
    free_node x k S too_wide h n = tt

    free_below : (x : ℕ) (S : Formula) (r : Run) → IsFreeRun r → IsFreeRun (below x S r)
    free_below x S (goes_on t) h = h
    free_below x S (hit path) h = tt
    free_below x S (over f) h = h

    mutual
      visit_free : (d : ℕ) (N : Node) (s : Progress) (r : Run) → IsFreeNode N → IsFreeMet s.failure → Visit keep kind d N s r → IsFreeRun r
      visit_free d N s r h m (spent b) = free_first s budget m tt
      visit_free d N s r h m (closed b e) = m
      visit_free d N s r h m (found b e) = tt
      visit_free d N s r h m (failed {f = f} b e) = free_first s f m (fails_free d N f h e)
      visit_free d N s r h m (kept b e n) = m
      visit_free d N s r h m (dropped b e n) = free_first s many_leaves m tt
      visit_free d N s r h m (branched {x = x} {S = S} {r = q} b e v) =
          free_below x S q (visits_free (d + 1) x S 0 (counted s) q (eliminates_free d x N S h e) m v)

      visits_free : (d x : ℕ) (S : Formula) (k : ℕ) (s : Progress) (r : Run) → IsFree y S → IsFreeMet s.failure → Visits keep kind d x S k s r
          → IsFreeRun r
      visits_free d x S k s r h m (past b) = m
      visits_free d x S k s r h m (next {t = t} {N = N} n v w) =
          visits_free d x S (k + 1) t r h (visit_free d N s (goes_on t) (free_node x k S N h n) m v) w
      visits_free d x S k s r h m (hits n v) = tt
      visits_free d x S k s r h m (ends {N = N} {f = f} n v) = visit_free d N s (over f) (free_node x k S N h n) m v

  failed_free : (f : Failure) (r : Run) → IsOutcome r (failed_by f) → IsFreeRun r → IsFreeFailure y f
  failed_free f (hit path) o h = absurd cc
  failed_free f (over g) o h = let e : f ≡ g = cc in subst (IsFreeFailure y) (sym e) h
  failed_free f (goes_on s) o h = subst IsFreeMet o h

  pub search_free : (kind : Kind) (F : Formula) (f : Failure) → IsFree y F → IsSearch kind F (failed_by f) → IsFreeFailure y f
  search_free kind F f h w = failed_free f w.0 w.2 (visit_free [] kind 0 (reached F) start w.0 h tt w.1)

  -- and of leaves
  met_free : (f : Failure) (o : Option Failure) (leaves : List Formula) → failed_before f ≡ leaves_by o leaves → IsFreeMet o → IsFreeFailure y f
  met_free f None leaves e h = absurd cc
  met_free f (Some g) leaves e h = let same : f ≡ g = cc in subst (IsFreeFailure y) (sym same) h

  before_free : (f : Failure) (r : Run) → failed_before f ≡ leaves_of r → IsFreeRun r → IsFreeFailure y f
  before_free f (hit path) e h = absurd cc
  before_free f (over g) e h = let same : f ≡ g = cc in subst (IsFreeFailure y) (sym same) h
  before_free f (goes_on s) e h = met_free f s.failure s.leaves e h

  pub leaves_free : (keep : Symbols) (kind : Kind) (F : Formula) (f : Failure) → IsFree y F → AreLeaves keep kind F (failed_before f)
      → IsFreeFailure y f
  leaves_free keep kind F f h w = before_free f w.0 w.2 (visit_free keep kind 0 (reached F) start w.0 h tt w.1)
