-- In each leaf of a run only kept symbols occur, and its atoms are on canonical polynomials.
use Rattle.std.proofs.Common.{◌≡◌, ℕ, ◌+◌, Bool, true, false, List, [], ◌∷◌, ◌++◌, Option, None, Some, sym, subst}
use Rattle.theory_meaning.specs.declared.words.Kind.{Kind}
use Rattle.theory_polynomial.specs.Polynomial.{IsFreeOf}
use Rattle.theory_formula.specs.Formula.{Formula, formulas_from, disjunction, EachAtomOfAll}
use Rattle.theory_formula.specs.Symbols.{IsFree, IsProper}
use Rattle.theory_signed.specs.ByKind.{simplified_for}
use Rattle.theory_signed.proofs.KindAtoms.{kind_proper, kind_free}
use Rattle.theory_decision.specs.Choice.{Symbols, is_one_of, others}
use Rattle.theory_decision.specs.Finding.{Failure, Node, reached, too_wide, leaf, finding}
use Rattle.theory_decision.specs.Search.{Progress, Run, goes_on, hit, over, counted, below, Visit, spent, closed, found, failed, kept, dropped, branched, Visits, past, next, hits, ends, start}
use Rattle.theory_decision.specs.Outcomes.{all_of, leaves_by, leaves_of, AreLeaves}
use Rattle.theory_decision.proofs.AtomFacts.{free_unless}
use Rattle.theory_decision.proofs.KeptSymbols.{kept_alone}
use Rattle.theory_decision.proofs.Findings.{found_says}
use Rattle.theory_decision.proofs.Nodes.{IsProperNode, node_proper, eliminated}

module _ (keep : Symbols) (kind : Kind) where
  pub record IsLeaf (S : Formula) : Type 0 where
    pub proper : IsProper S
    pub others_kept : others keep S ≡ []

  abbrev pub EachLeaf : List Formula → Type 0
  EachLeaf [] = Unit {0}
  EachLeaf (S ∷ leaves) = IsLeaf S × EachLeaf leaves

  one_more : (leaves : List Formula) (S : Formula) → EachLeaf leaves → IsLeaf S → EachLeaf (leaves ++ S ∷ [])
  one_more [] S h l = (l, tt)
  one_more (T ∷ leaves) S h l = (h.0, one_more leaves S h.1 l)

  abbrev Ends : Run → Type 0
  Ends (goes_on t) = EachLeaf t.leaves
  Ends (hit path) = Unit {0}
  Ends (over f) = Unit {0}

  is_leaf : (d : ℕ) (N : Node) (S : Formula) → IsProperNode N → finding keep kind d N ≡ leaf S → IsLeaf S
  is_leaf d too_wide S h e = absurd cc
  is_leaf d (reached F) S h e =
      let says = found_says keep kind d F (leaf S) e in
      record { proper = subst IsProper says.0 (kind_proper kind F h); others_kept = says.1 }

  below_ends : (x : ℕ) (S : Formula) (r : Run) → Ends r → Ends (below x S r)
  below_ends x S (goes_on t) h = h
  below_ends x S (hit path) h = tt
  below_ends x S (over f) h = tt

  mutual
    visit_leaves : (d : ℕ) (N : Node) (s : Progress) (r : Run) → IsProperNode N → EachLeaf s.leaves → Visit keep kind d N s r → Ends r
    visit_leaves d N s r h l (spent b) = tt
    visit_leaves d N s r h l (closed b e) = l
    visit_leaves d N s r h l (found b e) = tt
    visit_leaves d N s r h l (failed b e) = l
    visit_leaves d N s r h l (kept {S = S} b e n) = one_more s.leaves S l (is_leaf d N S h e)
    visit_leaves d N s r h l (dropped b e n) = tt
    visit_leaves d N s r h l (branched {x = x} {S = S} {r = q} b e v) =
        below_ends x S q (visits_leaves (d + 1) x S 0 (counted s) q (eliminated keep kind d x N S h e).proper l v)

    visits_leaves : (d x : ℕ) (S : Formula) (k : ℕ) (s : Progress) (r : Run) → IsProper S → EachLeaf s.leaves → Visits keep kind d x S k s r → Ends r
    visits_leaves d x S k s r h l (past b) = l
    visits_leaves d x S k s r h l (next {t = t} {N = N} n v w) =
        visits_leaves d x S (k + 1) t r h (visit_leaves d N s (goes_on t) (node_proper x k S N h n) l v) w
    visits_leaves d x S k s r h l (hits n v) = tt
    visits_leaves d x S k s r h l (ends n v) = tt

  by_failure : (o : Option Failure) (fs leaves : List Formula) → all_of leaves ≡ leaves_by o fs → leaves ≡ fs
  by_failure None fs leaves e = cc
  by_failure (Some f) fs leaves e = absurd cc

  by_run : (leaves : List Formula) (r : Run) → all_of leaves ≡ leaves_of r → Ends r → EachLeaf leaves
  by_run leaves (hit path) e h = absurd cc
  by_run leaves (over f) e h = absurd cc
  by_run leaves (goes_on s) e h = subst EachLeaf (sym (by_failure s.failure s.leaves leaves e)) h

  pub each_leaf : (F : Formula) (leaves : List Formula) → IsProper F → AreLeaves keep kind F (all_of leaves) → EachLeaf leaves
  each_leaf F leaves h w = by_run leaves w.0 w.2 (visit_leaves 0 (reached F) start w.0 h tt w.1)

  -- so a symbol that isn't kept occurs in none of them
  not_both : (a : Bool) → a ≡ true → a ≡ false → ⊥
  not_both true e f = cc
  not_both false e f = cc

  leaf_free : (y : ℕ) (S : Formula) → is_one_of keep y ≡ false → IsLeaf S → IsFree y S
  leaf_free y S n h = free_unless y S (λ o. not_both (is_one_of keep y) (kept_alone keep S y h.proper h.others_kept o) n)

  leaves_free : (y : ℕ) (leaves : List Formula) → is_one_of keep y ≡ false → EachLeaf leaves
      → EachAtomOfAll (λ P T. IsFreeOf y P) (formulas_from leaves)
  leaves_free y [] n h = tt
  leaves_free y (S ∷ leaves) n h = (leaf_free y S n h.0, leaves_free y leaves n h.1)

  leaves_proper : (leaves : List Formula) → EachLeaf leaves → IsProper (disjunction (formulas_from leaves))
  leaves_proper [] h = tt
  leaves_proper (S ∷ leaves) h = (h.0.proper, leaves_proper leaves h.1)

  -- the disjunction of the leaves is proper, and where a symbol isn't kept its simplified form is free of it
  pub condition_proper : (F : Formula) (leaves : List Formula) → IsProper F → AreLeaves keep kind F (all_of leaves)
      → IsProper (disjunction (formulas_from leaves))
  condition_proper F leaves h w = leaves_proper leaves (each_leaf F leaves h w)

  pub condition_free : (F : Formula) (leaves : List Formula) (y : ℕ) → IsProper F → AreLeaves keep kind F (all_of leaves)
      → is_one_of keep y ≡ false → IsFree y (simplified_for kind (disjunction (formulas_from leaves)))
  condition_free F leaves y h w n = kind_free y kind (disjunction (formulas_from leaves)) (leaves_free y leaves n (each_leaf F leaves h w))
