-- Each formula has a run, and so an outcome.
use Rattle.std.proofs.Common.{◌≡◌, ℕ, zero, suc, ◌+◌, ◌<◌, ◌≤◌, ◌⊎◌, length, Bool, true, false, List, [], ◌∷◌, ◌++◌, Option, None, Some, refl, arith, inl, inr}
use Rattle.std.specs.Prelude.{◌||◌, nat_lt, if◌then◌else◌}
use Rattle.std.proofs.lemmas.Bool.{cases_Bool}
use Rattle.theory_formula.specs.Formula.{Formula, always, never, atom, conjunction, disjunction, formulas_from}
use Rattle.theory_signed.specs.ByKind.{simplified_for}
use Rattle.theory_elimination.specs.Branches.{branch_plans}
use Rattle.theory_elimination.specs.Elimination.{IsLinear}
use Rattle.theory_meaning.specs.declared.words.Kind.{Kind}
use Rattle.theory_decision.specs.Choice.{Symbols, others, candidates, chosen}
use Rattle.theory_decision.specs.Finding.{Failure, large, Node, reached, too_wide, IsNode, Finding, nowhere, everywhere, fails, leaf, eliminates, is_large, size_of, finding_by, open_finding, finding, finding_in}
use Rattle.theory_decision.specs.Search.{Progress, Run, goes_on, hit, over, counted, met, with_leaf, AreTooMany, below, Visit, spent, closed, found, failed, kept, dropped, branched, Visits, past, next, hits, ends, start, IsRun}
use Rattle.theory_decision.specs.Outcomes.{Outcome, hits_by, empty, failed_by, IsOutcome, IsSearch, Leaves, leaves_of, AreLeaves}
use Rattle.theory_formula.specs.Symbols.{IsProper}
use Rattle.theory_decision.proofs.Nodes.{IsProperNode, node_proper, eliminated}
use Rattle.theory_decision.proofs.WideBranches.{Told, node_at}
use Rattle.theory_decision.proofs.NoLeaves.{run_has_no_leaf}

neither : (a b : Bool) → a || b ≡ false → b ≡ false
neither true b e = absurd cc
neither false b e = e

not_deep : (d : ℕ) → nat_lt 64 d ≡ false → d ≤ 64
not_deep d h = grind (arith, h)

told_below : (m n : ℕ) → (m < n) ⊎ (n ≤ m)
told_below m n = elim (cases_Bool (nat_lt m n)) [ inl l ↦ inl (grind (arith, l)) | inr l ↦ inr (grind (arith, l)) ]

told_many : (leaves : List Formula) → Told (AreTooMany leaves)
told_many leaves = elim (told_below 4096 (length leaves)) [
  | inl l ↦ inl (inl l)
  | inr l ↦ elim (told_below 16384 (size_of (disjunction (formulas_from leaves)))) [
    | inl m ↦ inl (inr m)
    | inr m ↦ inr (λ h. elim h [ inl a ↦ absurd (omega (arith, l, a)) | inr a ↦ absurd (omega (arith, m, a)) ])
  ]
]

module _ (keep : Symbols) (kind : Kind) where
  shallow_open : (d x : ℕ) (T S : Formula) → open_finding keep kind d T ≡ eliminates x S → d ≤ 64
  shallow_open d x T S e =
      elim (is_large d T)
      as (λ b. is_large d T ≡ b
      → (if b then fails large else finding_by keep T (others keep T) (chosen kind (candidates keep T))) ≡ eliminates x S → d ≤ 64) [
        | true ↦ λ f e'. absurd cc
        | false ↦ λ f e'. not_deep d (neither (nat_lt 512 (size_of T)) (nat_lt 64 d) f)
      ] refl e

  shallow_in : (d x : ℕ) (T S : Formula) → finding_in keep kind d T ≡ eliminates x S → d ≤ 64
  shallow_in d x always S e = absurd cc
  shallow_in d x never S e = absurd cc
  shallow_in d x (atom P T) S e = shallow_open d x (atom P T) S e
  shallow_in d x (conjunction Fs) S e = shallow_open d x (conjunction Fs) S e
  shallow_in d x (disjunction Fs) S e = shallow_open d x (disjunction Fs) S e

  -- nothing is eliminated below depth 64
  shallow : (d x : ℕ) (N : Node) (S : Formula) → finding keep kind d N ≡ eliminates x S → d ≤ 64
  shallow d x too_wide S e = absurd cc
  shallow d x (reached F) S e = shallow_in d x (simplified_for kind F) S e

  -- the branches have a run where each node has one
  by_run : (d x k : ℕ) (S : Formula) (N : Node) (s : Progress) (q : Run) → IsNode x S k N → Visit keep kind d N s q
      → ((t : Progress) → (r : Run) × Visits keep kind d x S (k + 1) t r) → (r : Run) × Visits keep kind d x S k s r
  by_run d x k S N s (goes_on t) n v rest = let w = rest t in (w.0, next n v w.1)
  by_run d x k S N s (hit path) n v rest = (hit path, hits n v)
  by_run d x k S N s (over f) n v rest = (over f, ends n v)

  visits_exist : (d x : ℕ) (S : Formula) (m k : ℕ) (s : Progress) → IsProper S → IsLinear x S → length (branch_plans x S) ≤ k + m
      → ((N : Node) (t : Progress) → IsProperNode N → (r : Run) × Visit keep kind d N t r) → (r : Run) × Visits keep kind d x S k s r
  visits_exist d x S zero k s h l b V = (goes_on s, past (omega (arith, b)))
  visits_exist d x S (suc m) k s h l b V = elim (told_below k (length (branch_plans x S))) [
    | inl within ↦
        let n = node_at x S k h l within in
        let v = V n.0 s (node_proper x k S n.0 h n.1) in
        by_run d x k S n.0 s v.0 n.1 v.1 (λ t. visits_exist d x S m (k + 1) t h l (omega (arith, b)) V)
    | inr beyond ↦ (goes_on s, past beyond)
  ]

  by_finding : (d : ℕ) (N : Node) (s : Progress) (f : Finding) → s.visited < 20000 → finding keep kind d N ≡ f
      → ((x : ℕ) (S : Formula) → finding keep kind d N ≡ eliminates x S → (r : Run) × Visits keep kind (d + 1) x S 0 (counted s) r)
      → (r : Run) × Visit keep kind d N s r
  by_finding d N s nowhere l e V = (goes_on (counted s), closed l e)
  by_finding d N s everywhere l e V = (hit [], found l e)
  by_finding d N s (fails f) l e V = (goes_on (met f s), failed l e)
  by_finding d N s (leaf S) l e V = elim (told_many (s.leaves ++ S ∷ [])) [
    | inl many ↦ (over _, dropped l e many)
    | inr few ↦ (goes_on (with_leaf S s), kept l e few)
  ]
  by_finding d N s (eliminates x S) l e V = let w = V x S e in (below x S w.0, branched l e w.1)

  visit_exists : (left d : ℕ) (N : Node) (s : Progress) → 65 ≤ d + left → IsProperNode N → (r : Run) × Visit keep kind d N s r
  visit_exists zero d N s b h = elim (told_below s.visited 20000) [
    | inl l ↦ by_finding d N s (finding keep kind d N) l refl
        (λ x S e. let k = shallow d x N S e in absurd (omega (arith, b, k)))
    | inr l ↦ (over _, spent l)
  ]
  visit_exists (suc m) d N s b h = elim (told_below s.visited 20000) [
    | inl l ↦ by_finding d N s (finding keep kind d N) l refl
        (λ x S e.
        let k = eliminated keep kind d x N S h e in
        let all : length (branch_plans x S) ≤ 0 + length (branch_plans x S) = omega arith in
        visits_exist (d + 1) x S (length (branch_plans x S)) 0 (counted s) k.proper k.linear all
        (λ M t p. visit_exists m (d + 1) M t (omega (arith, b)) p))
    | inr l ↦ (over _, spent l)
  ]

pub run_exists : (keep : Symbols) (kind : Kind) (F : Formula) → IsProper F → (r : Run) × IsRun keep kind F r
run_exists keep kind F h = visit_exists keep kind 65 0 (reached F) start (omega arith) h

by_failure : (s : Progress) (o : Option Failure) → s.failure ≡ o → s.leaves ≡ [] → (u : Outcome) × IsOutcome (goes_on s) u
by_failure s None e l = (empty, (e, l))
by_failure s (Some f) e l = (failed_by f, e)

outcome_of : (kind : Kind) (F : Formula) (r : Run) → IsProper F → IsRun [] kind F r → (o : Outcome) × IsOutcome r o
outcome_of kind F (hit path) h v = (hits_by path, refl)
outcome_of kind F (over f) h v = (failed_by f, refl)
outcome_of kind F (goes_on s) h v = by_failure s s.failure refl (run_has_no_leaf kind F s h v)

pub search_exists : (kind : Kind) (F : Formula) → IsProper F → (o : Outcome) × IsSearch kind F o
search_exists kind F h =
    let r = run_exists [] kind F h in
    let o = outcome_of kind F r.0 h r.1 in
    (o.0, (r.0, r.1, o.1))

pub leaves_exist : (keep : Symbols) (kind : Kind) (F : Formula) → IsProper F → (l : Leaves) × AreLeaves keep kind F l
leaves_exist keep kind F h = let r = run_exists keep kind F h in (leaves_of r.0, (r.0, r.1, refl))
