-- Roots that are put in their places one after another: those of all atoms, upwards and each once.
use Rattle.std.proofs.Common.{◌≡◌, ℕ, ◌+◌, ◌<◌, ◌≤◌, Bool, true, false, cond, List, [], ◌∷◌, length, map, drop, get_or, ◌⊎◌}
use Rattle.std.proofs.Common.{inl, inr, ⊎_elim, refl, sym, ap, ◌∙◌, subst, arith, pos, Vec, Global, Result, OnOk}
use Rattle.std.specs.Prelude.{Contains}
use Rattle.std.proofs.lemmas.List.{at_drop_more, drop_all}
use Rattle.std.proofs.lemmas.List.Elements.{Contains-append_cases, Contains-push_cases}
use Rattle.theory_meaning.specs.Fraction.{Fraction, IsSame, IsBelow, below, same}
use Rattle.theory_meaning.proofs.OrderLaws.{below_or_same, fact_from_below, fact_from_same, same_itself, same_turned, same_from_fact, same_trans}
use Rattle.theory_meaning.specs.declared.words.Sign.TheVariants.{Zero}
use Rattle.theory_formula.specs.Formula as plain
use Rattle.theory_formula.specs.Formula.{EachAtomOfAll, formulas_from, sign_at}
use Rattle.theory_formula.specs.Signs.{sign_of_whole}
use Rattle.theory_formula.specs.Symbols.{SomeAtomAmong}
use Rattle.theory_polynomial.specs.Polynomial.{Monomial}
use Rattle.theory_elimination.proofs.SignSums.{is_none}
use Rattle.theory_decision.specs.Candidates.{IsAscending}
use Rattle.theory_decision.proofs.CandidateLaws.{Contains-first, Contains-rest}
use Rattle.theory_decision.specs.Witness.{only_at, IsRoot, AreRoots}
use Rattle.theory_signs.specs.declared.formula.Formula.{Formula}
use Rattle.theory_signs.specs.declared.formula.Formula.TheVariants.{And, Or}
use Rattle.theory_signs.specs.Plain.{formula_of}
use Rattle.theory_signs.proofs.PlainLemmas.{formula_of-And, formula_of-Or}
use Rattle.theory_witness.specs.declared.line.Line.{Line}
use Rattle.theory_witness.specs.Lines.{HoldsOnly, height, IsLineOf}
use Rattle.theory_witness.specs.Roots.{inserted, AddsRoots}

-- what inserted gives at a first entry: in front of it, the same, or behind it
record InsertedAt (r b : Fraction) (bs result : List Fraction) : Type 0 where
  cases : ((below r b ≡ true) × (result ≡ r ∷ b ∷ bs)) ⊎ ((IsSame r b × (result ≡ b ∷ bs)) ⊎ ((below b r ≡ true) × (result ≡ b ∷ inserted r bs)))

inserted_at : (r b : Fraction) (bs : List Fraction) → InsertedAt r b bs (inserted r (b ∷ bs))
inserted_at r b bs =
    elim (below r b) as (λ (t : Bool). below r b ≡ t → InsertedAt r b bs (cond t (r ∷ b ∷ bs) (cond (same r b) (b ∷ bs) (b ∷ inserted r bs)))) [
      | true ↦ λ e. record { cases = inl (e, refl) }
      | false ↦ λ e. elim (same r b) as (λ (t : Bool). same r b ≡ t → InsertedAt r b bs (cond t (b ∷ bs) (b ∷ inserted r bs))) [
        | true ↦ λ f. record { cases = inr (inl (fact_from_same r b f, refl)) }
        | false ↦ λ f. record { cases = inr (inr (not_same e f, refl)) }
      ] refl
    ] refl
  where
    not_same : below r b ≡ false → same r b ≡ false → below b r ≡ true
    not_same e f = ⊎_elim (λ g. g) (λ g. absurd (let bad : true ≡ false = sym (same_from_fact r b g) ∙ f in cc)) (below_or_same r b e)

-- it keeps the order
behind : (b r : Fraction) (bs : List Fraction) → IsBelow b r → IsAscending (b ∷ bs) → IsAscending (b ∷ inserted r bs)
behind b r [] up h = (up, tt)
behind b r (c ∷ bs) up h =
    ⊎_elim (λ k. subst (λ (cs : List Fraction). IsAscending (b ∷ cs)) (sym k.1) (up, (fact_from_below r c k.0, h.1)))
    (⊎_elim (λ k. subst (λ (cs : List Fraction). IsAscending (b ∷ cs)) (sym k.1) h)
    (λ k. subst (λ (cs : List Fraction). IsAscending (b ∷ cs)) (sym k.1) (h.0, behind c r bs (fact_from_below c r k.0) h.1)))
    (inserted_at r c bs).cases

inserted-ascending : (r : Fraction) (bs : List Fraction) → IsAscending bs → IsAscending (inserted r bs)
inserted-ascending r [] h = tt
inserted-ascending r (b ∷ bs) h =
    ⊎_elim (λ k. subst IsAscending (sym k.1) (fact_from_below r b k.0, h))
    (⊎_elim (λ k. subst IsAscending (sym k.1) h)
    (λ k. subst IsAscending (sym k.1) (behind b r bs (fact_from_below b r k.0) h)))
    (inserted_at r b bs).cases

-- the entry is the first, or one of the rest
nothing : (c : Fraction) → Contains {X = Fraction} [] c → ⊥
nothing c n = let m = n.1 in absurd (omega arith)

only_one : (b c : Fraction) → Contains (b ∷ []) c → b ≡ c
only_one b c k = ⊎_elim (λ n. absurd (nothing c n)) (λ e. e) (Contains-push_cases [] b c k)

first_or_rest : (b c : Fraction) (bs : List Fraction) → Contains (b ∷ bs) c → (b ≡ c) ⊎ Contains bs c
first_or_rest b c bs h = ⊎_elim (λ k. inl (only_one b c k)) (λ k. inr k) (Contains-append_cases (b ∷ []) bs c h)

-- what was there is there
inserted-keeps : (r : Fraction) (bs : List Fraction) (c : Fraction) → Contains bs c → Contains (inserted r bs) c
inserted-keeps r [] c h = absurd (nothing c h)
inserted-keeps r (b ∷ bs) c h =
    ⊎_elim (λ k. subst (λ (cs : List Fraction). Contains cs c) (sym k.1) (Contains-rest r c (b ∷ bs) h))
    (⊎_elim (λ k. subst (λ (cs : List Fraction). Contains cs c) (sym k.1) h)
    (λ k. subst (λ (cs : List Fraction). Contains cs c) (sym k.1)
    (⊎_elim (λ e. subst (λ (d : Fraction). Contains (b ∷ inserted r bs) d) e (Contains-first b (inserted r bs)))
    (λ i. Contains-rest b c (inserted r bs) (inserted-keeps r bs c i)) (first_or_rest b c bs h))))
    (inserted_at r b bs).cases

-- the root is there, or one that is the same number
inserted-has : (r : Fraction) (bs : List Fraction) → (b : Fraction) × Contains (inserted r bs) b × IsSame b r
inserted-has r [] = (r, Contains-first r [], same_itself r)
inserted-has r (b ∷ bs) =
    ⊎_elim (λ k. (r, subst (λ (cs : List Fraction). Contains cs r) (sym k.1) (Contains-first r (b ∷ bs)), same_itself r))
    (⊎_elim (λ k. (b, subst (λ (cs : List Fraction). Contains cs b) (sym k.1) (Contains-first b bs), same_turned r b k.0))
    (λ k. let i = inserted-has r bs in (i.0, subst (λ (cs : List Fraction). Contains cs i.0) (sym k.1) (Contains-rest b i.0 (inserted r bs) i.1), i.2)))
    (inserted_at r b bs).cases

-- nothing else is
inserted-only : (r : Fraction) (bs : List Fraction) (c : Fraction) → Contains (inserted r bs) c → (r ≡ c) ⊎ Contains bs c
inserted-only r [] c h = first_or_rest r c [] h
inserted-only r (b ∷ bs) c h =
    ⊎_elim (λ k. first_or_rest r c (b ∷ bs) (subst (λ (cs : List Fraction). Contains cs c) k.1 h))
    (⊎_elim (λ k. inr (subst (λ (cs : List Fraction). Contains cs c) k.1 h))
    (λ k. ⊎_elim (λ e. inr (subst (λ (d : Fraction). Contains (b ∷ bs) d) e (Contains-first b bs)))
    (λ i. ⊎_elim (λ e. inl e) (λ j. inr (Contains-rest b c bs j)) (inserted-only r bs c i))
    (first_or_rest b c (inserted r bs) (subst (λ (cs : List Fraction). Contains cs c) k.1 h))))
    (inserted_at r b bs).cases

-- where a fact is of one number alone, putting that in its place adds it
pub inserted_adds : (IsOne : Fraction → Type 0) (r : Fraction) (old : List Fraction) → IsOne r → ((q : Fraction) → IsOne q → IsSame r q)
    → AddsRoots IsOne old (inserted r old)
inserted_adds IsOne r old is only = record {
  ascending = inserted-ascending r old;
  only_roots = λ b i. ⊎_elim (λ e. inr (subst IsOne e is)) (λ j. inl j) (inserted-only r old b i);
  keeps = inserted-keeps r old;
  all_roots = λ q one. let k = inserted-has r old in (k.0, k.1, same_trans k.0 r q k.2 (only q one));
}

-- a value at which the polynomial of an atom is zero, among some formulas
abbrev pub IsRootAmong : ℕ → plain.Formulas → Fraction → Type 0
IsRootAmong x Fs q = SomeAtomAmong (λ P S. sign_at P (only_at x q) ≡ Zero) Fs

-- the root of a line is that of its atom
pub line_root : (x : ℕ) (P : List Monomial) (l : Line) (r : Fraction) (old new : List Fraction) → IsLineOf x P l → height l r ≡ pos 0
    → ((q : Fraction) → height l q ≡ pos 0 → IsSame r q) → new ≡ inserted r old → AddsRoots (λ q. sign_at P (only_at x q) ≡ Zero) old new
line_root x P l r old new h here only is =
    subst (AddsRoots (λ q. sign_at P (only_at x q) ≡ Zero) old) (sym is)
    (inserted_adds (λ q. sign_at P (only_at x q) ≡ Zero) r old (h.sign r ∙ ap sign_of_whole here)
    (λ q z. only q (is_none (height l q) (sym (h.sign q) ∙ z))))

-- the roots of the first formulas of a list are added, and those of the rest are still to come
pub record AddedBefore (x : ℕ) (all rest : plain.Formulas) (old new : List Fraction) : Type 0 where
  pub only : EachAtomOfAll (HoldsOnly x) rest
  pub ascending : IsAscending old → IsAscending new
  pub only_roots : (b : Fraction) → Contains new b → Contains old b ⊎ IsRootAmong x all b
  pub keeps : (b : Fraction) → Contains old b → Contains new b
  pub all_roots : (q : Fraction) → IsRootAmong x all q → ((b : Fraction) × Contains new b × IsSame b q) ⊎ IsRootAmong x rest q
  pub part : (q : Fraction) → IsRootAmong x rest q → IsRootAmong x all q

pub none_added : (x : ℕ) (all : plain.Formulas) (old : List Fraction) → EachAtomOfAll (HoldsOnly x) all → AddedBefore x all all old old
none_added x all old h = record {
  only = h;
  ascending = λ u. u;
  only_roots = λ b i. inl i;
  keeps = λ b i. i;
  all_roots = λ q r. inr r;
  part = λ q r. r;
}

one_added : (x : ℕ) (all rest : plain.Formulas) (F : plain.Formula) (old new newer : List Fraction) → AddedBefore x all (plain.more F rest) old new
    → AddsRoots (IsRoot x F) new newer → AddedBefore x all rest old newer
one_added x all rest F old new newer h a = record {
  only = h.only.1;
  ascending = λ u. a.ascending (h.ascending u);
  only_roots = λ b i. ⊎_elim (λ j. h.only_roots b j) (λ r. inr (h.part b (inl r))) (a.only_roots b i);
  keeps = λ b i. a.keeps b (h.keeps b i);
  all_roots = λ q r.
      ⊎_elim (λ k. inl (k.0, a.keeps k.0 k.1, k.2)) (λ s. ⊎_elim (λ here. inl (a.all_roots q here)) (λ more_left. inr more_left) s) (h.all_roots q r);
  part = λ q r. h.part q (inr r);
}

-- the formulas from one place on
drop_step : (Fs : List Formula) (i : ℕ) (F : Formula) → i < length Fs → F ≡ get_or Fs i F
    → map formula_of (drop i Fs) ≡ formula_of F ∷ map formula_of (drop (i + 1) Fs)
drop_step Fs i F within item =
    at_drop_more (λ (Gs : List Formula). map formula_of Gs) Fs i F within ∙ ap (λ (G : Formula). map formula_of (G ∷ drop (i + 1) Fs)) (sym item)

-- before the loop's next formula
pub first_only : (x : ℕ) (all : plain.Formulas) (Fs : List Formula) (i : ℕ) (F : Formula) (old new : List Fraction) → i < length Fs → F ≡ get_or Fs i F
    → AddedBefore x all (formulas_from (map formula_of (drop i Fs))) old new → plain.EachAtom (HoldsOnly x) (formula_of F)
first_only x all Fs i F old new within item h =
    (subst (λ (Gs : List plain.Formula). EachAtomOfAll (HoldsOnly x) (formulas_from Gs)) (drop_step Fs i F within item) h.only).0

pub next_added : (x : ℕ) (all : plain.Formulas) (Fs : List Formula) (i : ℕ) (F : Formula) (old new newer : List Fraction) → i < length Fs
    → F ≡ get_or Fs i F → AddedBefore x all (formulas_from (map formula_of (drop i Fs))) old new → AddsRoots (IsRoot x (formula_of F)) new newer
    → AddedBefore x all (formulas_from (map formula_of (drop (i + 1) Fs))) old newer
next_added x all Fs i F old new newer within item h a =
    one_added x all (formulas_from (map formula_of (drop (i + 1) Fs))) (formula_of F) old new newer
    (subst (λ (Gs : List plain.Formula). AddedBefore x all (formulas_from Gs) old new) (drop_step Fs i F within item) h) a

-- and after the last
all_added : (x : ℕ) (all : plain.Formulas) (old new : List Fraction) → AddedBefore x all plain.none old new → AddsRoots (IsRootAmong x all) old new
all_added x all old new h = record {
  ascending = h.ascending;
  only_roots = h.only_roots;
  keeps = h.keeps;
  all_roots = λ q r. ⊎_elim (λ k. k) (λ none_left. absurd none_left) (h.all_roots q r);
}

pub last_added : (x : ℕ) (all : plain.Formulas) (Fs : List Formula) (i : ℕ) (old new : List Fraction) → length Fs ≤ i
    → AddedBefore x all (formulas_from (map formula_of (drop i Fs))) old new → AddsRoots (IsRootAmong x all) old new
last_added x all Fs i old new end h =
    all_added x all old new
    (subst (λ (Gs : List Formula). AddedBefore x all (formulas_from (map formula_of Gs)) old new) (drop_all i Fs end) h)

-- roots among the members are those of the whole
pub roots_of-And : {T E : Type 0} (x : ℕ) (F : Formula) (Fs : Vec Formula Global) (xs : List Formula) (result : Result T E) (old new : List Fraction)
    → F ≡ And Fs → xs ≡ Fs.items → OnOk result (AddsRoots (IsRootAmong x (formulas_from (map formula_of xs))) old new)
    → OnOk result (AddsRoots (IsRoot x (formula_of F)) old new)
roots_of-And x F Fs xs result old new is same h =
    subst (λ (G : plain.Formula). OnOk result (AddsRoots (IsRoot x G) old new)) (sym (ap formula_of is ∙ formula_of-And Fs))
    (subst (λ (ys : List Formula). OnOk result (AddsRoots (IsRootAmong x (formulas_from (map formula_of ys))) old new)) same h)

pub roots_of-Or : {T E : Type 0} (x : ℕ) (F : Formula) (Fs : Vec Formula Global) (xs : List Formula) (result : Result T E) (old new : List Fraction)
    → F ≡ Or Fs → xs ≡ Fs.items → OnOk result (AddsRoots (IsRootAmong x (formulas_from (map formula_of xs))) old new)
    → OnOk result (AddsRoots (IsRoot x (formula_of F)) old new)
roots_of-Or x F Fs xs result old new is same h =
    subst (λ (G : plain.Formula). OnOk result (AddsRoots (IsRoot x G) old new)) (sym (ap formula_of is ∙ formula_of-Or Fs))
    (subst (λ (ys : List Formula). OnOk result (AddsRoots (IsRootAmong x (formulas_from (map formula_of ys))) old new)) same h)

-- what is added to none are the roots
pub added_to_none : (x : ℕ) (F : plain.Formula) (bs : List Fraction) → AddsRoots (IsRoot x F) [] bs → AreRoots x F bs
added_to_none x F bs h = record {
  ascending = h.ascending tt;
  only_roots = λ b i. ⊎_elim (λ n. absurd (nothing b n)) (λ r. r) (h.only_roots b i);
  all_roots = h.all_roots;
}
