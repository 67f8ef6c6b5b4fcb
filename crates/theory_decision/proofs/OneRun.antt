-- A node has one run: what comes of a visit is determined by the node, the depth and the progress before.
use Rattle.std.proofs.Common.{◌≡◌, ℕ, zero, suc, ◌+◌, ◌<◌, ◌≤◌, ◌⊎◌, length, List, [], ◌∷◌, ◌++◌, None, Some, refl, sym, ap, ◌∙◌, subst, arith, inl, inr}
use Rattle.std.specs.Prelude.{slice_get}
use Rattle.theory_formula.specs.Formula.{Formula}
use Rattle.theory_elimination.specs.Branches.{branch_plans}
use Rattle.theory_formula.specs.Symbols.{IsProper}
use Rattle.theory_decision.proofs.Nodes.{IsProperNode, node_proper, eliminated}
use Rattle.theory_elimination.proofs.SingleBranches.{branch_single}
use Rattle.theory_meaning.specs.declared.words.Kind.{Kind}
use Rattle.theory_decision.specs.Choice.{Symbols}
use Rattle.theory_decision.specs.Finding.{Failure, budget, many_leaves, Node, reached, too_wide, IsNode, Finding, nowhere, everywhere, fails, leaf, eliminates, finding}
use Rattle.theory_decision.specs.Search.{Progress, Run, goes_on, hit, over, first_failure, counted, met, with_leaf, AreTooMany, below, Visit, spent, closed, found, failed, kept, dropped, branched, Visits, past, next, hits, ends, start}
use Rattle.theory_decision.specs.Outcomes.{Outcome, hits_by, empty, failed_by, IsOutcome, IsSearch, Leaves, leaves_of, AreLeaves}

some_branch : {A : Type 0} (xs : List A) (k : ℕ) (a : A) → slice_get xs k ≡ Some a → k < length xs
some_branch [] k a e = absurd cc
some_branch (x ∷ xs) zero a e = omega arith
some_branch (x ∷ xs) (suc k) a e = let l = some_branch xs k a e in omega (arith, l)

module _ (keep : Symbols) (kind : Kind) where
  node_once : (x : ℕ) (S : Formula) (k : ℕ) (N M : Node) → IsNode x S k N → IsNode x S k M → N ≡ M
  node_once x S k (reached G) (reached H) n m = ap reached (branch_single x S k G H n.0 m.0)
  node_once x S k (reached G) too_wide n m = absurd (n.1 m)
  node_once x S k too_wide (reached H) n m = absurd (m.1 n)
  node_once x S k too_wide too_wide n m = refl

  node_within : (x : ℕ) (S : Formula) (k : ℕ) (N : Node) → IsNode x S k N → k < length (branch_plans x S)
  node_within x S k (reached G) n = some_branch (branch_plans x S) k n.0.0 n.0.1
  node_within x S k too_wide n = some_branch (branch_plans x S) k n.0 n.1

  -- what a finding comes to
  abbrev Comes : Finding → ℕ → Progress → Run → Type 0
  Comes nowhere d s r = r ≡ goes_on (counted s)
  Comes everywhere d s r = r ≡ hit []
  Comes (fails f) d s r = r ≡ goes_on (met f s)
  Comes (leaf S) d s r =
      (¬ AreTooMany (s.leaves ++ S ∷ []) × (r ≡ goes_on (with_leaf S s)))
      ⊎ (AreTooMany (s.leaves ++ S ∷ []) × (r ≡ over (first_failure s many_leaves)))
  Comes (eliminates x S) d s r = (q : Run) × Visits keep kind (d + 1) x S 0 (counted s) q × (r ≡ below x S q)

  comes : (d : ℕ) (N : Node) (s : Progress) (r : Run) → Visit keep kind d N s r
      → ((20000 ≤ s.visited) × (r ≡ over (first_failure s budget))) ⊎ ((s.visited < 20000) × Comes (finding keep kind d N) d s r)
  comes d N s r (spent l) = inl (l, refl)
  comes d N s r (closed l e) = inr (l, subst (λ (f : Finding). Comes f d s r) (sym e) refl)
  comes d N s r (found l e) = inr (l, subst (λ (f : Finding). Comes f d s r) (sym e) refl)
  comes d N s r (failed l e) = inr (l, subst (λ (f : Finding). Comes f d s r) (sym e) refl)
  comes d N s r (kept l e n) = inr (l, subst (λ (f : Finding). Comes f d s r) (sym e) (inl (n, refl)))
  comes d N s r (dropped l e n) = inr (l, subst (λ (f : Finding). Comes f d s r) (sym e) (inr (n, refl)))
  comes d N s r (branched {r = q} l e v) = inr (l, subst (λ (f : Finding). Comes f d s r) (sym e) (q, v, refl))

  -- the second of two visits comes to what its finding says
  counted_comes : (d : ℕ) (N : Node) (s : Progress) (r : Run) (f : Finding) → s.visited < 20000 → finding keep kind d N ≡ f → Visit keep kind d N s r
      → Comes f d s r
  counted_comes d N s r f l e v = elim (comes d N s r v) [
    | inl h ↦ let m = h.0 in absurd (omega (arith, l, m))
    | inr h ↦ subst (λ (g : Finding). Comes g d s r) e h.1
  ]

  leaf_goes_on : (d : ℕ) (s : Progress) (S : Formula) (r : Run) → ¬ AreTooMany (s.leaves ++ S ∷ []) → Comes (leaf S) d s r
      → r ≡ goes_on (with_leaf S s)
  leaf_goes_on d s S r n (inl h) = h.1
  leaf_goes_on d s S r n (inr h) = absurd (n h.0)

  leaf_is_over : (d : ℕ) (s : Progress) (S : Formula) (r : Run) → AreTooMany (s.leaves ++ S ∷ []) → Comes (leaf S) d s r
      → r ≡ over (first_failure s many_leaves)
  leaf_is_over d s S r n (inl h) = absurd (h.0 n)
  leaf_is_over d s S r n (inr h) = h.1

  spent_is_over : (d : ℕ) (N : Node) (s : Progress) (r : Run) → 20000 ≤ s.visited → Visit keep kind d N s r → r ≡ over (first_failure s budget)
  spent_is_over d N s r l v = elim (comes d N s r v) [
    | inl h ↦ h.1
    | inr h ↦ let m = h.0 in absurd (omega (arith, l, m))
  ]

  -- the same of the branches from the k-th on
  abbrev After : ℕ → ℕ → Formula → ℕ → Run → Run → Type 0
  After d x S k (goes_on t) r = Visits keep kind d x S (k + 1) t r
  After d x S k (hit path) r = r ≡ hit path
  After d x S k (over f) r = r ≡ over f

  pub record Follows (d x : ℕ) (S : Formula) (k : ℕ) (s : Progress) (r : Run) : Type 0 where
    pub node : Node
    pub is_node : IsNode x S k node
    pub run : Run
    pub visit : Visit keep kind d node s run
    pub rest : After d x S k run r

  follows : (d x : ℕ) (S : Formula) (k : ℕ) (s : Progress) (r : Run) → Visits keep kind d x S k s r
      → ((length (branch_plans x S) ≤ k) × (r ≡ goes_on s)) ⊎ Follows d x S k s r
  follows d x S k s r (past l) = inl (l, refl)
  follows d x S k s r (next {t = t} {N = N} n v w) = inr (record { node = N; is_node = n; run = goes_on t; visit = v; rest = w })
  follows d x S k s r (hits {N = N} {path = path} n v) = inr (record { node = N; is_node = n; run = hit path; visit = v; rest = refl })
  follows d x S k s r (ends {N = N} {f = f} n v) = inr (record { node = N; is_node = n; run = over f; visit = v; rest = refl })

  past_goes_on : (d x : ℕ) (S : Formula) (k : ℕ) (s : Progress) (r : Run) → length (branch_plans x S) ≤ k → Visits keep kind d x S k s r
      → r ≡ goes_on s
  past_goes_on d x S k s r l v = elim (follows d x S k s r v) [
    | inl h ↦ h.1
    | inr h ↦ let m = node_within x S k h.node h.is_node in absurd (omega (arith, l, m))
  ]

  -- the second of two runs over the branches goes through the same node
  same_after : (d x : ℕ) (S : Formula) (k : ℕ) (s : Progress) (q r : Run) (N : Node) → IsNode x S k N → ((o : Run) → Visit keep kind d N s o → o ≡ q)
      → Visits keep kind d x S k s r → After d x S k q r
  same_after d x S k s q r N n m v = elim (follows d x S k s r v) [
    | inl h ↦ let i = node_within x S k N n in let j = h.0 in absurd (omega (arith, i, j))
    | inr h ↦
        let same : h.node ≡ N = node_once x S k h.node N h.is_node n in
        subst (λ (o : Run). After d x S k o r) (m h.run (subst (λ (M : Node). Visit keep kind d M s h.run) same h.visit)) h.rest
  ]

  mutual
    pub visit_once : (d : ℕ) (N : Node) (s : Progress) (q r : Run) → IsProperNode N → Visit keep kind d N s q → Visit keep kind d N s r → r ≡ q
    visit_once d N s q r h (spent l) v = spent_is_over d N s r l v
    visit_once d N s q r h (closed l e) v = counted_comes d N s r nowhere l e v
    visit_once d N s q r h (found l e) v = counted_comes d N s r everywhere l e v
    visit_once d N s q r h (failed {f = f} l e) v = counted_comes d N s r (fails f) l e v
    visit_once d N s q r h (kept {S = S} l e n) v = leaf_goes_on d s S r n (counted_comes d N s r (leaf S) l e v)
    visit_once d N s q r h (dropped {S = S} l e n) v = leaf_is_over d s S r n (counted_comes d N s r (leaf S) l e v)
    visit_once d N s q r h (branched {x = x} {S = S} {r = o} l e w) v =
        let c = counted_comes d N s r (eliminates x S) l e v in
        c.2 ∙ ap (below x S) (visits_once (d + 1) x S 0 (counted s) o c.0 (eliminated keep kind d x N S h e).proper w c.1)

    visits_once : (d x : ℕ) (S : Formula) (k : ℕ) (s : Progress) (q r : Run) → IsProper S → Visits keep kind d x S k s q
        → Visits keep kind d x S k s r → r ≡ q
    visits_once d x S k s q r p (past l) v = past_goes_on d x S k s r l v
    visits_once d x S k s q r p (next {t = t} {N = N} n u w) v =
        visits_once d x S (k + 1) t q r p w
        (same_after d x S k s (goes_on t) r N n (λ o z. visit_once d N s (goes_on t) o (node_proper x k S N p n) u z) v)
    visits_once d x S k s q r p (hits {N = N} {path = path} n u) v =
        same_after d x S k s (hit path) r N n (λ o z. visit_once d N s (hit path) o (node_proper x k S N p n) u z) v
    visits_once d x S k s q r p (ends {N = N} {f = f} n u) v =
        same_after d x S k s (over f) r N n (λ o z. visit_once d N s (over f) o (node_proper x k S N p n) u z) v

-- so a formula has one outcome, and one list of leaves
by_failure : (s : Progress) (f : Failure) → s.failure ≡ Some f → s.failure ≡ None → ⊥
by_failure s f e k = let h : Some f ≡ None = sym e ∙ k in cc

same_failure : (s : Progress) (f g : Failure) → s.failure ≡ Some f → s.failure ≡ Some g → f ≡ g
same_failure s f g e k = let h : Some f ≡ Some g = sym e ∙ k in cc

outcome_once : (r : Run) (o u : Outcome) → IsOutcome r o → IsOutcome r u → o ≡ u
outcome_once (hit path) o u h k = h ∙ sym k
outcome_once (over f) o u h k = h ∙ sym k
outcome_once (goes_on s) (hits_by path) u h k = absurd h
outcome_once (goes_on s) empty (hits_by path) h k = absurd k
outcome_once (goes_on s) empty empty h k = refl
outcome_once (goes_on s) empty (failed_by f) h k = absurd (by_failure s f k h.0)
outcome_once (goes_on s) (failed_by f) (hits_by path) h k = absurd k
outcome_once (goes_on s) (failed_by f) empty h k = absurd (by_failure s f h k.0)
outcome_once (goes_on s) (failed_by f) (failed_by g) h k = ap failed_by (same_failure s f g h k)

pub search_once : (kind : Kind) (F : Formula) (o u : Outcome) → IsProper F → IsSearch kind F o → IsSearch kind F u → o ≡ u
search_once kind F o u h w v =
    let same = visit_once [] kind 0 (reached F) start w.0 v.0 h w.1 v.1 in
    outcome_once w.0 o u w.2 (subst (λ (r : Run). IsOutcome r u) same v.2)

pub leaves_once : (keep : Symbols) (kind : Kind) (F : Formula) (l m : Leaves) → IsProper F → AreLeaves keep kind F l → AreLeaves keep kind F m → l ≡ m
leaves_once keep kind F l m h w v =
    let same = visit_once keep kind 0 (reached F) start w.0 v.0 h w.1 v.1 in
    w.2 ∙ sym (ap leaves_of same) ∙ sym v.2
