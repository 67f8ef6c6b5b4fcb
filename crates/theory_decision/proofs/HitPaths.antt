-- The path of a hit leads from the formula to one that is true everywhere.
use Rattle.std.proofs.Common.{◌≡◌, ℕ, ◌+◌, List, [], ◌∷◌, refl, sym, subst}
use Rattle.theory_formula.specs.Formula.{Formula}
use Rattle.theory_elimination.specs.Branches.{IsBranch}
use Rattle.theory_meaning.specs.declared.words.Kind.{Kind}
use Rattle.theory_decision.specs.Finding.{Node, reached, too_wide, IsNode, everywhere, eliminates, finding}
use Rattle.theory_decision.specs.Search.{Step, Progress, Run, goes_on, hit, over, counted, below, Visit, spent, closed, found, failed, kept, dropped, branched, Visits, past, next, hits, ends, start}
use Rattle.theory_decision.specs.Outcomes.{hits_by, IsOutcome, IsSearch}
use Rattle.theory_decision.specs.Witness.{IsHit}
use Rattle.theory_decision.proofs.Findings.{found_says}

module _ (kind : Kind) where
  -- the path begins at the formula of the node
  abbrev HitAt : Node → List Step → Type 0
  HitAt (reached F) path = IsHit kind F path
  HitAt too_wide path = ⊥

  -- some branch begins the path
  abbrev SomeHit : ℕ → Formula → List Step → Type 0
  SomeHit x S path = (k : ℕ) × (G : Formula) × IsBranch x S k G × IsHit kind G path

  found_path : (d : ℕ) (N : Node) (path : List Step) → finding [] kind d N ≡ everywhere → path ≡ [] → HitAt N path
  found_path d too_wide path e f = absurd cc
  found_path d (reached F) path e f = subst (IsHit kind F) (sym f) (found_says [] kind d F everywhere e)

  begun_path : (d x : ℕ) (N : Node) (S : Formula) (rest path : List Step) → finding [] kind d N ≡ eliminates x S
      → record { formula = S; symbol = x } ∷ rest ≡ path → SomeHit x S rest → HitAt N path
  begun_path d x too_wide S rest path e f h = absurd cc
  begun_path d x (reached F) S rest path e f h =
      let says = found_says [] kind d F (eliminates x S) e in
      subst (IsHit kind F) f (sym says.0, says.1, h.0, h.1, h.2, h.3)

  branched_path : (d x : ℕ) (N : Node) (S : Formula) (q : Run) (path : List Step) → finding [] kind d N ≡ eliminates x S
      → ((rest : List Step) → q ≡ hit rest → SomeHit x S rest) → below x S q ≡ hit path → HitAt N path
  branched_path d x N S (goes_on t) path e m h = absurd cc
  branched_path d x N S (over f) path e m h = absurd cc
  branched_path d x N S (hit rest) path e m h = begun_path d x N S rest path e (cc) (m rest refl)

  there_path : (x k : ℕ) (S : Formula) (N : Node) (path : List Step) → IsNode x S k N → HitAt N path → SomeHit x S path
  there_path x k S too_wide path n h = absurd h
  there_path x k S (reached G) path n h = (k, G, n.0, h)

  mutual
    visit_path : (d : ℕ) (N : Node) (s : Progress) (r : Run) (path : List Step) → Visit [] kind d N s r → r ≡ hit path → HitAt N path
    visit_path d N s r path (spent l) e = absurd cc
    visit_path d N s r path (closed l f) e = absurd cc
    visit_path d N s r path (found l f) e = found_path d N path f cc
    visit_path d N s r path (failed l f) e = absurd cc
    visit_path d N s r path (kept l f n) e = absurd cc
    visit_path d N s r path (dropped l f n) e = absurd cc
    visit_path d N s r path (branched {x = x} {S = S} {r = q} l f v) e =
        branched_path d x N S q path f (λ rest h. visits_path (d + 1) x S 0 (counted s) q rest v h) e

    visits_path : (d x : ℕ) (S : Formula) (k : ℕ) (s : Progress) (r : Run) (path : List Step) → Visits [] kind d x S k s r → r ≡ hit path
        → SomeHit x S path
    visits_path d x S k s r path (past b) e = absurd cc
    visits_path d x S k s r path (next {t = t} {N = N} n v w) e = visits_path d x S (k + 1) t r path w e
    visits_path d x S k s r path (hits {N = N} {path = p} n v) e =
        there_path x k S N path n (visit_path d N s (hit p) path v e)
    visits_path d x S k s r path (ends n v) e = absurd cc

hit_path : (kind : Kind) (F : Formula) (path : List Step) (r : Run) → IsOutcome r (hits_by path) → ((p : List Step) → r ≡ hit p → IsHit kind F p)
    → IsHit kind F path
hit_path kind F path (hit p) o m = let e : path ≡ p = cc in subst (IsHit kind F) (sym e) (m p refl)
hit_path kind F path (over f) o m = absurd cc
hit_path kind F path (goes_on s) o m = absurd o

pub search_path : (kind : Kind) (F : Formula) (path : List Step) → IsSearch kind F (hits_by path) → IsHit kind F path
search_path kind F path w = hit_path kind F path w.0 w.2 (λ p e. visit_path kind 0 (reached F) start w.0 p w.1 e)
