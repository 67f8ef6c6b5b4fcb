-- What a run says of the points of a formula: a hit that there are some, and leaves without a failure which they are.
use Rattle.std.proofs.Common.{◌≡◌, ℕ, zero, suc, ◌+◌, ◌<◌, ◌≤◌, ◌⊎◌, length, Bool, true, false, List, [], ◌∷◌, ◌++◌, None, refl, sym, ap, ◌∙◌, subst, arith, inl, inr}
use Rattle.std.specs.Prelude.{◌||◌, nat_lt, IsTrue}
use Rattle.std.proofs.lemmas.Bool.{cases_Bool}
use Rattle.theory_meaning.specs.Fraction.{Fraction, IsSame}
use Rattle.theory_meaning.proofs.OrderLaws.{same_itself}
use Rattle.theory_polynomial.specs.PolynomialValue.{Values, rest_of, symbol_at}
use Rattle.theory_formula.specs.Formula.{Formula, Reading, truth_at, truth_by, some_by, reading_at, formulas_from, IsTrueAt}
use Rattle.theory_signed.proofs.KindAtoms.{kind_proper}
use Rattle.theory_elimination.specs.Branches.{branch_plans}
use Rattle.theory_elimination.specs.Elimination.{with_value, IsLinear, BranchIsTrueAt}
use Rattle.theory_elimination.proofs.BranchLaws.{branch_has_value, some_branch_is_true}
use Rattle.theory_elimination.proofs.SingleBranches.{branch_single}
use Rattle.theory_meaning.specs.declared.words.Kind.{Kind}
use Rattle.theory_decision.specs.Choice.{Symbols, is_one_of}
use Rattle.theory_decision.specs.Finding.{Failure, Node, reached, too_wide, IsNode, nowhere, everywhere, leaf, eliminates, finding}
use Rattle.theory_decision.specs.Search.{Progress, Run, goes_on, hit, over, counted, met, with_leaf, below, Visit, spent, closed, found, failed, kept, dropped, branched, Visits, past, next, hits, ends}
use Rattle.theory_formula.specs.Symbols.{IsProper}
use Rattle.theory_decision.specs.Regions.{AgreeOn, IsTrueFor, SomeIsTrueAt}
use Rattle.theory_decision.proofs.Nodes.{in_simplified, IsProperNode, node_proper, eliminated}
use Rattle.theory_decision.proofs.KeptSymbols.{leaf_reads}
use Rattle.theory_decision.proofs.Findings.{found_says}

pub other_symbol : (x y : ℕ) (v : Fraction) (q : Values) → (x ≡ y → ⊥) → symbol_at y (with_value x v q) ≡ symbol_at y q
other_symbol zero zero v q n = absurd (n refl)
other_symbol zero (suc y) v q n = refl
other_symbol (suc x) zero v q n = refl
other_symbol (suc x) (suc y) v q n = other_symbol x y v (rest_of q) (λ e. n (ap suc e))

or_grouped : (a b c : Bool) → (a || b) || c ≡ a || (b || c)
or_grouped true b c = refl
or_grouped false b c = refl

some_append : (r : Reading) (Fs Gs : List Formula)
    → some_by r (formulas_from (Fs ++ Gs)) ≡ some_by r (formulas_from Fs) || some_by r (formulas_from Gs)
some_append r [] Gs = refl
some_append r (F ∷ Fs) Gs =
    ap (λ (b : Bool). truth_by r F || b) (some_append r Fs Gs)
    ∙ sym (or_grouped (truth_by r F) (some_by r (formulas_from Fs)) (some_by r (formulas_from Gs)))

first_holds : (a b : Bool) → a ≡ true → a || b ≡ true
first_holds true b e = refl
first_holds false b e = absurd cc

one_holds : (a b : Bool) → a || (b || false) ≡ true → (a ≡ true) ⊎ (b ≡ true)
one_holds true b e = inl refl
one_holds false true e = inr refl
one_holds false false e = absurd cc

second_holds : (a b : Bool) → b ≡ true → a || (b || false) ≡ true
second_holds true b e = refl
second_holds false true e = refl
second_holds false false e = absurd cc

not_both : (a : Bool) → a ≡ true → a ≡ false → ⊥
not_both true e f = cc
not_both false e f = cc

module _ (keep : Symbols) (kind : Kind) where
  agree_itself : (p : Values) → AgreeOn keep p p
  agree_itself p y k = same_itself (symbol_at y p)

  agree_with : (x : ℕ) (v : Fraction) (p q : Values) → is_one_of keep x ≡ false → AgreeOn keep p q → AgreeOn keep p (with_value x v q)
  agree_with x v p q n h y k =
      subst (λ (a : Fraction). IsSame (symbol_at y p) a)
      (sym (other_symbol x y v q (λ e. not_both (is_one_of keep x) (subst (λ (z : ℕ). IsTrue (is_one_of keep z)) (sym e) k) n))) (h y k)

  -- what a true leaf of a node gives, and what a node needs for one of its leaves to be true
  abbrev pub Gives : Node → Values → Type 0
  Gives (reached F) p = IsTrueFor keep p F
  Gives too_wide p = ⊥

  abbrev pub Needs : Node → Values → Type 0
  Needs (reached F) p = IsTrueFor keep p F
  Needs too_wide p = Unit {0}

  -- some branch from the k-th on is true where the kept symbols have these values
  abbrev Later : ℕ → Formula → ℕ → Values → Type 0
  Later x S k p = (q : Values) × (j : ℕ) × AgreeOn keep p q × (k ≤ j) × (j < length (branch_plans x S)) × BranchIsTrueAt x S q j

  pub record GoesOn (s t : Progress) (G N : Values → Type 0) : Type 0 where
    pub stays : (p : Values) → SomeIsTrueAt p s.leaves → SomeIsTrueAt p t.leaves
    pub sound : (p : Values) → SomeIsTrueAt p t.leaves → SomeIsTrueAt p s.leaves ⊎ G p
    pub earlier : t.failure ≡ None → s.failure ≡ None
    pub complete : t.failure ≡ None → (p : Values) → N p → SomeIsTrueAt p t.leaves

  abbrev pub Means : Progress → Run → (Values → Type 0) → (Values → Type 0) → Type 0
  Means s (goes_on t) G N = GoesOn s t G N
  Means s (hit path) G N = (p : Values) → G p
  Means s (over f) G N = Unit {0}

  closed_means : (d : ℕ) (N : Node) (s : Progress) → IsProperNode N → finding keep kind d N ≡ nowhere → GoesOn s (counted s) (Gives N) (Needs N)
  closed_means d too_wide s n e = absurd cc
  closed_means d (reached F) s n e = record {
    stays = λ p h. h;
    sound = λ p h. inl h;
    earlier = λ f. f;
    complete = λ f p h.
        let t : false ≡ true =
        sym (ap (λ (T : Formula). truth_at T h.0) (found_says keep kind d F nowhere e)) ∙ sym (in_simplified kind F h.0 n) ∙ h.2 in
        absurd cc;
  }

  found_means : (d : ℕ) (N : Node) → IsProperNode N → finding keep kind d N ≡ everywhere → (p : Values) → Gives N p
  found_means d too_wide n e p = absurd cc
  found_means d (reached F) n e p =
      (p, agree_itself p, in_simplified kind F p n ∙ ap (λ (T : Formula). truth_at T p) (found_says keep kind d F everywhere e))

  failed_means : (f : Failure) (N : Node) (s : Progress) → GoesOn s (met f s) (Gives N) (Needs N)
  failed_means f N s = record {
    stays = λ p h. h;
    sound = λ p h. inl h;
    earlier = λ e. absurd cc;
    complete = λ e p h. absurd cc;
  }

  kept_means : (d : ℕ) (N : Node) (s : Progress) (S : Formula) → IsProperNode N → finding keep kind d N ≡ leaf S
      → GoesOn s (with_leaf S s) (Gives N) (Needs N)
  kept_means d too_wide s S h e = absurd cc
  kept_means d (reached F) s S h e =
      let says_leaf = found_says keep kind d F (leaf S) e in
      let proper : IsProper S = subst IsProper says_leaf.0 (kind_proper kind F h) in
      let same : (p : Values) → truth_at F p ≡ truth_at S p = λ p. in_simplified kind F p h ∙ ap (λ (T : Formula). truth_at T p) says_leaf.0 in
      let there : (p : Values) → some_by (reading_at p) (formulas_from (s.leaves ++ S ∷ []))
      ≡ some_by (reading_at p) (formulas_from s.leaves) || (truth_at S p || false) =
      λ p. some_append (reading_at p) s.leaves (S ∷ []) in
      record {
        stays = λ p a. there p ∙ first_holds (some_by (reading_at p) (formulas_from s.leaves)) (truth_at S p || false) a;
        sound = λ p a. elim (one_holds (some_by (reading_at p) (formulas_from s.leaves)) (truth_at S p) (sym (there p) ∙ a)) [
          | inl old ↦ inl old
          | inr new ↦ inr (p, agree_itself p, same p ∙ new)
        ];
        earlier = λ f. f;
        complete = λ f p a.
            there p ∙ second_holds (some_by (reading_at p) (formulas_from s.leaves)) (truth_at S p)
            (leaf_reads keep S p a.0 proper says_leaf.1 a.1 ∙ sym (same a.0) ∙ a.2);
      }

  -- what branches say of the formula S they say of a formula with the same truth
  branches_mean : (x : ℕ) (F S : Formula) (s : Progress) (r : Run) → ((p : Values) → truth_at F p ≡ truth_at S p) → IsLinear x S
      → Means (counted s) r (λ p. IsTrueFor keep p S) (Later x S 0) → Means s (below x S r) (Gives (reached F)) (Needs (reached F))
  branches_mean x F S s (goes_on t) same l m = record {
    stays = m.stays;
    sound = λ p a. elim (m.sound p a) [ inl old ↦ inl old | inr new ↦ inr (new.0, new.1, same new.0 ∙ new.2) ];
    earlier = m.earlier;
    complete = λ f p a.
        let b = some_branch_is_true x a.0 S l (sym (same a.0) ∙ a.2) in m.complete f p (a.0, b.0, a.1, omega arith, b.1, b.2);
  }
  branches_mean x F S s (hit path) same l m = λ p. let a = m p in (a.0, a.1, same a.0 ∙ a.2)
  branches_mean x F S s (over f) same l m = tt

  branched_means : (d x : ℕ) (N : Node) (s : Progress) (S : Formula) (r : Run) → IsProperNode N → finding keep kind d N ≡ eliminates x S
      → IsLinear x S → Means (counted s) r (λ p. IsTrueFor keep p S) (Later x S 0) → Means s (below x S r) (Gives N) (Needs N)
  branched_means d x too_wide s S r h e l m = absurd cc
  branched_means d x (reached F) s S r h e l m =
      let says = found_says keep kind d F (eliminates x S) e in
      branches_mean x F S s r (λ p. in_simplified kind F p h ∙ ap (λ (T : Formula). truth_at T p) says.0) l m

  node_gives : (x k : ℕ) (S : Formula) (N : Node) (p : Values) → IsLinear x S → is_one_of keep x ≡ false → IsNode x S k N → Gives N p
      → IsTrueFor keep p S
  node_gives x k S too_wide p l f n g = absurd g
  node_gives x k S (reached G) p l f n g =
      let v = branch_has_value x g.0 S k G l n.0 g.2 in
      (with_value x v.0 g.0, agree_with x v.0 p g.0 f g.1, v.1)

  needed : (x k : ℕ) (S : Formula) (N : Node) (p : Values) → IsNode x S k N → (q : Values) → AgreeOn keep p q → BranchIsTrueAt x S q k → Needs N p
  needed x k S (reached G) p n q a b = (q, a, subst (λ (H : Formula). IsTrueAt H q) (branch_single x S k b.0 G b.1 n.0) b.2)
  needed x k S too_wide p n q a b = tt

  -- the k-th branch is true, or a later one
  here_or_later : (x k : ℕ) (S : Formula) (N : Node) (s t : Progress) (p : Values) → IsNode x S k N → GoesOn s t (Gives N) (Needs N)
      → t.failure ≡ None
      → Later x S k p → SomeIsTrueAt p t.leaves ⊎ Later x S (k + 1) p
  here_or_later x k S N s t p n g e h =
      elim (cases_Bool (nat_lt k h.1)) [
        | inl later ↦ let c : k + 1 ≤ h.1 = grind (arith, later) in inr (h.0, h.1, h.2, c, h.4, h.5)
        | inr here ↦
            let b = h.3 in
            let same : h.1 ≡ k = grind (arith, here, b) in
            inl (g.complete e p (needed x k S N p n h.0 h.2 (subst (λ (j : ℕ). BranchIsTrueAt x S h.0 j) same h.5)))
      ]

  next_means : (x k : ℕ) (S : Formula) (N : Node) (s t : Progress) (r : Run) → IsLinear x S → is_one_of keep x ≡ false → IsNode x S k N
      → GoesOn s t (Gives N) (Needs N)
      → Means t r (λ p. IsTrueFor keep p S) (Later x S (k + 1)) → Means s r (λ p. IsTrueFor keep p S) (Later x S k)
  next_means x k S N s t (goes_on u) l f n g m = record {
    stays = λ p a. m.stays p (g.stays p a);
    sound = λ p a. elim (m.sound p a) [
      | inl old ↦ elim (g.sound p old) [ inl older ↦ inl older | inr new ↦ inr (node_gives x k S N p l f n new) ]
      | inr new ↦ inr new
    ];
    earlier = λ e. g.earlier (m.earlier e);
    complete = λ e p a. elim (here_or_later x k S N s t p n g (m.earlier e) a) [
      | inl there ↦ m.stays p there
      | inr later ↦ m.complete e p later
    ];
  }
  next_means x k S N s t (hit path) l f n g m = m
  next_means x k S N s t (over e) l f n g m = tt

  mutual
    pub visit_means : (d : ℕ) (N : Node) (s : Progress) (r : Run) → IsProperNode N → Visit keep kind d N s r → Means s r (Gives N) (Needs N)
    visit_means d N s r h (spent l) = tt
    visit_means d N s r h (closed l e) = closed_means d N s h e
    visit_means d N s r h (found l e) = found_means d N h e
    visit_means d N s r h (failed {f = f} l e) = failed_means f N s
    visit_means d N s r h (kept {S = S} l e n) = kept_means d N s S h e
    visit_means d N s r h (dropped l e n) = tt
    visit_means d N s r h (branched {x = x} {S = S} {r = q} l e v) =
        let k = eliminated keep kind d x N S h e in
        branched_means d x N s S q h e k.linear (visits_means (d + 1) x S 0 (counted s) q k.proper k.linear k.free v)

    visits_means : (d x : ℕ) (S : Formula) (k : ℕ) (s : Progress) (r : Run) → IsProper S → IsLinear x S → is_one_of keep x ≡ false
        → Visits keep kind d x S k s r → Means s r (λ p. IsTrueFor keep p S) (Later x S k)
    visits_means d x S k s r h l f (past b) = record {
      stays = λ p t. t;
      sound = λ p t. inl t;
      earlier = λ e. e;
      complete = λ e p t. let a = t.3 in let c = t.4 in absurd (omega (arith, a, b, c));
    }
    visits_means d x S k s r h l f (next {t = t} {N = N} n v w) =
        next_means x k S N s t r l f n (visit_means d N s (goes_on t) (node_proper x k S N h n) v) (visits_means d x S (k + 1) t r h l f w)
    visits_means d x S k s r h l f (hits {N = N} {path = path} n v) =
        λ p. node_gives x k S N p l f n (visit_means d N s (hit path) (node_proper x k S N h n) v p)
    visits_means d x S k s r h l f (ends n v) = tt
