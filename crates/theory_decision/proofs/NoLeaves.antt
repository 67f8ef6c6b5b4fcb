-- Where no symbol is kept no leaf is found: in a simplified form that isn't decided some symbol occurs.
use Rattle.std.proofs.Common.{◌≡◌, ℕ, ◌+◌, true, false, [], refl, sym, ap, ◌∙◌}
use Rattle.theory_meaning.specs.declared.words.Kind.{Kind}
use Rattle.theory_formula.specs.Formula.{Formula, always, never}
use Rattle.theory_formula.specs.Symbols.{IsProper}
use Rattle.theory_signed.specs.ByKind.{simplified_for}
use Rattle.theory_signed.proofs.KindAtoms.{kind_proper}
use Rattle.theory_signed.proofs.ReducedForms.{kind_reduced, reduced_has}
use Rattle.theory_decision.specs.Choice.{others}
use Rattle.theory_decision.specs.Finding.{Finding, Node, reached, too_wide, nowhere, everywhere, leaf, finding, finding_in}
use Rattle.theory_decision.specs.Search.{Progress, Run, goes_on, hit, over, counted, below, Visit, spent, closed, found, failed, kept, dropped, branched, Visits, past, next, hits, ends, start, IsRun}
use Rattle.theory_decision.proofs.AtomFacts.{some_occurs}
use Rattle.theory_decision.proofs.KeptSymbols.{kept_alone}
use Rattle.theory_decision.proofs.Findings.{found_says}
use Rattle.theory_decision.proofs.Nodes.{IsProperNode, node_proper, eliminated}

everywhere_is_no_leaf : (S : Formula) → ◌≡◌ {A = Finding} everywhere (leaf S) → ⊥
everywhere_is_no_leaf S e = cc

nowhere_is_no_leaf : (S : Formula) → ◌≡◌ {A = Finding} nowhere (leaf S) → ⊥
nowhere_is_no_leaf S e = cc

not_true : false ≡ true → ⊥
not_true e = cc

module _ (kind : Kind) where
  no_leaf : (d : ℕ) (N : Node) (S : Formula) → IsProperNode N → finding [] kind d N ≡ leaf S → ⊥
  no_leaf d too_wide S h e = absurd cc
  no_leaf d (reached F) S h e =
      let T = simplified_for kind F in
      let proper : IsProper T = kind_proper kind F h in
      let says = found_says [] kind d F (leaf S) e in
      let open_one : T ≡ always → ⊥ = λ z. everywhere_is_no_leaf S (sym (ap (finding_in [] kind d) z) ∙ e) in
      let open_too : T ≡ never → ⊥ = λ z. nowhere_is_no_leaf S (sym (ap (finding_in [] kind d) z) ∙ e) in
      let y = some_occurs T proper (reduced_has T (kind_reduced kind F) open_one open_too) in
      not_true (kept_alone [] T y.0 proper (ap (others []) says.0 ∙ says.1) y.1)

  abbrev Ends : Run → Type 0
  Ends (goes_on t) = t.leaves ≡ []
  Ends r = Unit {0}

  below_ends : (x : ℕ) (S : Formula) (r : Run) → Ends r → Ends (below x S r)
  below_ends x S (goes_on t) h = h
  below_ends x S (hit path) h = tt
  below_ends x S (over f) h = tt

  mutual
    visit_none : (d : ℕ) (N : Node) (s : Progress) (r : Run) → IsProperNode N → s.leaves ≡ [] → Visit [] kind d N s r → Ends r
    visit_none d N s r h l (spent b) = tt
    visit_none d N s r h l (closed b e) = l
    visit_none d N s r h l (found b e) = tt
    visit_none d N s r h l (failed b e) = l
    visit_none d N s r h l (kept {S = S} b e n) = absurd (no_leaf d N S h e)
    visit_none d N s r h l (dropped b e n) = tt
    visit_none d N s r h l (branched {x = x} {S = S} {r = q} b e v) =
        below_ends x S q (visits_none (d + 1) x S 0 (counted s) q (eliminated [] kind d x N S h e).proper l v)

    visits_none : (d x : ℕ) (S : Formula) (k : ℕ) (s : Progress) (r : Run) → IsProper S → s.leaves ≡ [] → Visits [] kind d x S k s r → Ends r
    visits_none d x S k s r h l (past b) = l
    visits_none d x S k s r h l (next {t = t} {N = N} n v w) =
        visits_none d x S (k + 1) t r h (visit_none d N s (goes_on t) (node_proper x k S N h n) l v) w
    visits_none d x S k s r h l (hits n v) = tt
    visits_none d x S k s r h l (ends n v) = tt

pub run_has_no_leaf : (kind : Kind) (F : Formula) (s : Progress) → IsProper F → IsRun [] kind F (goes_on s) → s.leaves ≡ []
run_has_no_leaf kind F s h v = visit_none kind 0 (reached F) start (goes_on s) h refl v
