-- A failure that was met stays the one that counts, and nodes are counted up to 20000.
use Rattle.std.proofs.Common.{◌≡◌, ℕ, ◌+◌, Option, Some, ap}
use Rattle.std.specs.Option.{unwrap_or}
use Rattle.theory_formula.specs.Formula.{Formula}
use Rattle.theory_meaning.specs.declared.words.Kind.{Kind}
use Rattle.theory_decision.specs.Choice.{Symbols}
use Rattle.theory_decision.specs.Finding.{Failure, budget, many_leaves, Node}
use Rattle.theory_decision.specs.Search.{Progress, Run, goes_on, hit, over, first_failure, counted, below, Visit, spent, closed, found, failed, kept, dropped, branched, Visits, past, next, hits, ends}

module _ (keep : Symbols) (kind : Kind) (f : Failure) where
  abbrev pub StaysFailed : Run → Type 0
  StaysFailed (goes_on t) = t.failure ≡ Some f
  StaysFailed (hit path) = Unit {0}
  StaysFailed (over g) = g ≡ f

  first : (s : Progress) (g : Failure) → s.failure ≡ Some f → first_failure s g ≡ f
  first s g e = ap (λ (o : Option Failure). unwrap_or o g) e

  below_stays : (x : ℕ) (S : Formula) (r : Run) → StaysFailed r → StaysFailed (below x S r)
  below_stays x S (goes_on t) h = h
  below_stays x S (hit path) h = tt
  below_stays x S (over g) h = h

  mutual
    pub visit_stays : (d : ℕ) (N : Node) (s : Progress) (r : Run) → s.failure ≡ Some f → Visit keep kind d N s r → StaysFailed r
    visit_stays d N s r e (spent b) = first s budget e
    visit_stays d N s r e (closed b h) = e
    visit_stays d N s r e (found b h) = tt
    visit_stays d N s r e (failed {f = g} b h) = ap Some (first s g e)
    visit_stays d N s r e (kept b h n) = e
    visit_stays d N s r e (dropped b h n) = first s many_leaves e
    visit_stays d N s r e (branched {x = x} {S = S} {r = q} b h v) = below_stays x S q (visits_stay (d + 1) x S 0 (counted s) q e v)

    visits_stay : (d x : ℕ) (S : Formula) (k : ℕ) (s : Progress) (r : Run) → s.failure ≡ Some f → Visits keep kind d x S k s r → StaysFailed r
    visits_stay d x S k s r e (past b) = e
    visits_stay d x S k s r e (next {t = t} {N = N} n v w) = visits_stay d x S (k + 1) t r (visit_stays d N s (goes_on t) e v) w
    visits_stay d x S k s r e (hits n v) = tt
    visits_stay d x S k s r e (ends {N = N} {f = g} n v) = visit_stays d N s (over g) e v
