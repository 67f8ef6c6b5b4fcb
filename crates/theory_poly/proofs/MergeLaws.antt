-- Two polynomials merged term by term give the polynomial of their sum.
use Rattle.std.proofs.Common.{◌≡◌, ℕ, ◌+◌, ◌<◌, ◌≤◌, length, get_or, drop, append_assoc, ℤ, pos, ◌+ℤ◌, Bool, true, false, List, [], ◌∷◌, ◌++◌, refl, sym, ap, ap₂, ◌∙◌, subst, arith, unsigned_abs}
use Rattle.std.specs.Prelude.{if◌then◌else◌}
use Rattle.std.specs.Ordering.{nat_cmp, int_eq, ordering_reverse}
use Rattle.std.specs.Cmp.Lexicographic.{slice_cmp}
use Rattle.std.specs.declared.cmp.Ordering.{Ordering}
use Rattle.std.specs.declared.cmp.Ordering.TheVariants.{Less, Equal, Greater}
use Rattle.std.specs.Str.{bytes_eq}
use Rattle.std.proofs.lemmas.Cmp.{nat_list_cmp_total}
use Rattle.std.proofs.lemmas.List.{drop_more, drop_all, append-nil}
use Rattle.std.proofs.lemmas.Int.{ints}
use Rattle.theory_polynomial.specs.Polynomial.{Monomial, monomial, coefficient_at, Precedes, PrecedesFirst, IsPolynomial, sum_of, height_of}
use Rattle.theory_polynomial.proofs.CoefficientLaws.{plus_assoc, coefficient_at-append}
use Rattle.theory_polynomial.proofs.FixedOrder.{precedes_rest, tied_are_equal}
use Rattle.theory_poly.specs.Kept.{IsGathered}

-- the sum of two terms with equal exponents before the rest, left out where it is 0
pub combined : Monomial → Monomial → List Monomial → List Monomial
combined t u rest =
    if int_eq (t.coefficient +ℤ u.coefficient) (pos 0) then rest else monomial (t.coefficient +ℤ u.coefficient) t.powers ∷ rest

-- which of two first terms comes first
pub chosen : Ordering → Monomial → Monomial → List Monomial → List Monomial → List Monomial → List Monomial
chosen Less t u first both second = t ∷ first
chosen Equal t u first both second = combined t u both
chosen Greater t u first both second = u ∷ second

merged_into : Monomial → (List Monomial → List Monomial) → List Monomial → List Monomial
merged_into t rest [] = t ∷ rest []
merged_into t rest (u ∷ us) =
    chosen (slice_cmp nat_cmp u.powers t.powers) t u (rest (u ∷ us)) (rest us) (merged_into t rest us)

-- the two lists merged
pub merged_of : List Monomial → List Monomial → List Monomial
merged_of [] us = us
merged_of (t ∷ ts) us = merged_into t (merged_of ts) us

-- its three steps
pub merged_step : (t u : Monomial) (ts us : List Monomial)
    → merged_of (t ∷ ts) (u ∷ us)
    ≡ chosen (slice_cmp nat_cmp u.powers t.powers) t u (merged_of ts (u ∷ us)) (merged_of ts us) (merged_of (t ∷ ts) us)
unfolding merged_of merged_into
merged_step t u ts us = refl

-- nothing on one side leaves the other
pub merged_nothing_left : (us : List Monomial) → merged_of [] us ≡ us
unfolding merged_of
merged_nothing_left us = refl

pub merged_nothing_right : (ts : List Monomial) → merged_of ts [] ≡ ts
unfolding merged_of merged_into
merged_nothing_right [] = refl
merged_nothing_right (t ∷ ts) = ap (λ (r : List Monomial). t ∷ r) (merged_nothing_right ts)

-- the coefficients
own : Monomial → List ℕ → ℤ
own t e = if bytes_eq t.powers e then t.coefficient else pos 0

own_sum : (b : Bool) (c d : ℤ) → (if b then c +ℤ d else pos 0) ≡ (if b then c else pos 0) +ℤ (if b then d else pos 0)
own_sum true c d = refl
own_sum false c d = refl

own_zero : (b : Bool) (c : ℤ) → c ≡ pos 0 → (if b then c else pos 0) ≡ pos 0
own_zero true c h = h
own_zero false c h = refl

eq_means : (a b : ℤ) → int_eq a b ≡ true → a ≡ b
eq_means a b h = grind (arith, ints)

not_eq_means : (a b : ℤ) → int_eq a b ≡ false → ¬ (a ≡ b)
not_eq_means a b h e = grind (arith, ints)

combined_coefficient : (t u : Monomial) (rest : List Monomial) (e : List ℕ) (b : Bool) → int_eq (t.coefficient +ℤ u.coefficient) (pos 0) ≡ b
    → u.powers ≡ t.powers
    → coefficient_at (if b then rest else monomial (t.coefficient +ℤ u.coefficient) t.powers ∷ rest) e ≡ own t e +ℤ own u e +ℤ coefficient_at rest e
unfolding own
combined_coefficient t u rest e b is same =
    let other : own u e ≡ (if bytes_eq t.powers e then u.coefficient else pos 0) =
    ap (λ f. if bytes_eq f e then u.coefficient else pos 0) same in
    let both = own_sum (bytes_eq t.powers e) t.coefficient u.coefficient in
    elim b as (λ b. int_eq (t.coefficient +ℤ u.coefficient) (pos 0) ≡ b →
    coefficient_at (if b then rest else monomial (t.coefficient +ℤ u.coefficient) t.powers ∷ rest) e ≡ own t e +ℤ own u e +ℤ coefficient_at rest e) [
      | true ↦ λ is. let none = own_zero (bytes_eq t.powers e) (t.coefficient +ℤ u.coefficient) (eq_means _ _ is) in omega (arith, ints, none, other, both)
      | false ↦ λ is. omega (arith, ints, other, both)
    ] is

chosen_coefficient : (o : Ordering) (t u : Monomial) (first both second : List Monomial) (e : List ℕ) (a b : ℤ)
    → slice_cmp nat_cmp u.powers t.powers ≡ o
    → coefficient_at first e ≡ a +ℤ (own u e +ℤ b)
    → coefficient_at both e ≡ a +ℤ b
    → coefficient_at second e ≡ (own t e +ℤ a) +ℤ b
    → coefficient_at (chosen o t u first both second) e ≡ (own t e +ℤ a) +ℤ (own u e +ℤ b)
unfolding own chosen combined
chosen_coefficient Less t u first both second e a b is f g h = omega (arith, ints, f)
chosen_coefficient Equal t u first both second e a b is f g h =
    let all = combined_coefficient t u both e (int_eq (t.coefficient +ℤ u.coefficient) (pos 0)) refl (tied_are_equal u.powers t.powers is) in
    omega (arith, ints, all, g)
chosen_coefficient Greater t u first both second e a b is f g h = omega (arith, ints, h)

into_coefficient : (t : Monomial) (ts : List Monomial) (e : List ℕ) →
    ((us : List Monomial) → coefficient_at (merged_of ts us) e ≡ coefficient_at ts e +ℤ coefficient_at us e)
    → (us : List Monomial) → coefficient_at (merged_of (t ∷ ts) us) e ≡ coefficient_at (t ∷ ts) e +ℤ coefficient_at us e
unfolding merged_of merged_into own
into_coefficient t ts e h [] =
    ap (λ z. own t e +ℤ z) (h []) ∙ sym (plus_assoc (own t e) (coefficient_at ts e) (pos 0))
into_coefficient t ts e h (u ∷ us) =
    chosen_coefficient (slice_cmp nat_cmp u.powers t.powers) t u (merged_of ts (u ∷ us)) (merged_of ts us) (merged_of (t ∷ ts) us) e
    (coefficient_at ts e) (coefficient_at us e) refl (h (u ∷ us)) (h us) (into_coefficient t ts e h us)

pub merged_coefficient : (ts us : List Monomial) (e : List ℕ) → coefficient_at (merged_of ts us) e ≡ coefficient_at ts e +ℤ coefficient_at us e
unfolding merged_of
merged_coefficient [] us e = omega (arith, ints)
merged_coefficient (t ∷ ts) us e = into_coefficient t ts e (λ vs. merged_coefficient ts vs e) us

-- the order
record Merges (ts us r : List Monomial) : Type 0 where
  ordered : IsPolynomial r
  first : (e : List ℕ) → PrecedesFirst e ts → PrecedesFirst e us → PrecedesFirst e r

combined_merges : (t u : Monomial) (ts us r : List Monomial) (b : Bool) → int_eq (t.coefficient +ℤ u.coefficient) (pos 0) ≡ b → u.powers ≡ t.powers
    → IsPolynomial (t ∷ ts) → IsPolynomial (u ∷ us) → Merges ts us r
    → Merges (t ∷ ts) (u ∷ us) (if b then r else monomial (t.coefficient +ℤ u.coefficient) t.powers ∷ r)
combined_merges t u ts us r true is same h k m = record {
  ordered = m.ordered;
  first = λ e f g. m.first e (precedes_rest e t.powers ts f h.1) (precedes_rest e u.powers us g k.1);
}
combined_merges t u ts us r false is same h k m = record {
  ordered = (
    record { nonzero = not_eq_means _ _ is; places = h.0.places },
    m.first t.powers h.1 (subst (λ e. PrecedesFirst e us) same k.1),
    m.ordered,
  );
  first = λ e f g. f;
}

chosen_merges : (o : Ordering) (t u : Monomial) (ts us first both second : List Monomial) → slice_cmp nat_cmp u.powers t.powers ≡ o
    → IsPolynomial (t ∷ ts) → IsPolynomial (u ∷ us)
    → Merges ts (u ∷ us) first → Merges ts us both → Merges (t ∷ ts) us second
    → Merges (t ∷ ts) (u ∷ us) (chosen o t u first both second)
unfolding chosen combined
chosen_merges Less t u ts us first both second is h k f g s = record {
  ordered = (h.0, f.first t.powers h.1 is, f.ordered);
  first = λ e p q. p;
}
chosen_merges Equal t u ts us first both second is h k f g s =
    combined_merges t u ts us both (int_eq (t.coefficient +ℤ u.coefficient) (pos 0)) refl (tied_are_equal u.powers t.powers is) h k g
chosen_merges Greater t u ts us first both second is h k f g s =
    let turned : Precedes u.powers t.powers = nat_list_cmp_total.antisymm t.powers u.powers ∙ ap ordering_reverse is in
    record { ordered = (k.0, s.first u.powers turned k.1, s.ordered); first = λ e p q. q }

into_merges : (t : Monomial) (ts : List Monomial) → IsPolynomial (t ∷ ts) → ((us : List Monomial) → IsPolynomial us → Merges ts us (merged_of ts us))
    → (us : List Monomial) → IsPolynomial us → Merges (t ∷ ts) us (merged_of (t ∷ ts) us)
unfolding merged_of merged_into
into_merges t ts h m [] k = record {
  ordered = (h.0, (m [] tt).first t.powers h.1 tt, (m [] tt).ordered);
  first = λ e p q. p;
}
into_merges t ts h m (u ∷ us) k =
    chosen_merges (slice_cmp nat_cmp u.powers t.powers) t u ts us (merged_of ts (u ∷ us)) (merged_of ts us) (merged_of (t ∷ ts) us) refl h k
    (m (u ∷ us) k) (m us k.2) (into_merges t ts h m us k.2)

merges : (ts us : List Monomial) → IsPolynomial ts → IsPolynomial us → Merges ts us (merged_of ts us)
unfolding merged_of
merges [] us h k = record { ordered = k; first = λ e p q. q }
merges (t ∷ ts) us h k = into_merges t ts h (λ vs n. merges ts vs h.2 n) us k

-- the size of the coefficients
size_of_sum : (a b : ℤ) → unsigned_abs (a +ℤ b) ≤ unsigned_abs a + unsigned_abs b
size_of_sum a b = grind (arith, ints)

combined_height : (t u : Monomial) (r : List Monomial) (m n : ℕ) (b : Bool) → unsigned_abs t.coefficient ≤ m → unsigned_abs u.coefficient ≤ n
    → height_of r ≤ m + n → height_of (if b then r else monomial (t.coefficient +ℤ u.coefficient) t.powers ∷ r) ≤ m + n
combined_height t u r m n true h k l = l
combined_height t u r m n false h k l = let s = size_of_sum t.coefficient u.coefficient in omega (arith, s)

chosen_height : (o : Ordering) (t u : Monomial) (first both second : List Monomial) (m n : ℕ)
    → unsigned_abs t.coefficient ≤ m → unsigned_abs u.coefficient ≤ n
    → height_of first ≤ m + n → height_of both ≤ m + n → height_of second ≤ m + n → height_of (chosen o t u first both second) ≤ m + n
unfolding chosen combined
chosen_height Less t u first both second m n h k f g s = omega arith
chosen_height Equal t u first both second m n h k f g s =
    combined_height t u both m n (int_eq (t.coefficient +ℤ u.coefficient) (pos 0)) h k g
chosen_height Greater t u first both second m n h k f g s = omega arith

into_height : (t : Monomial) (ts : List Monomial) (m n : ℕ) → unsigned_abs t.coefficient ≤ m
    → ((us : List Monomial) → height_of us ≤ n → height_of (merged_of ts us) ≤ m + n)
    → (us : List Monomial) → height_of us ≤ n → height_of (merged_of (t ∷ ts) us) ≤ m + n
unfolding merged_of merged_into
into_height t ts m n h l [] k = let r = l [] k in omega (arith, r)
into_height t ts m n h l (u ∷ us) k =
    let own_small : unsigned_abs u.coefficient ≤ n = omega (arith, k) in
    let rest_small : height_of us ≤ n = omega (arith, k) in
    chosen_height (slice_cmp nat_cmp u.powers t.powers) t u (merged_of ts (u ∷ us)) (merged_of ts us) (merged_of (t ∷ ts) us) m n h own_small
    (l (u ∷ us) k) (l us rest_small) (into_height t ts m n h l us rest_small)

merged_height : (ts us : List Monomial) (m n : ℕ) → height_of ts ≤ m → height_of us ≤ n → height_of (merged_of ts us) ≤ m + n
unfolding merged_of
merged_height [] us m n h k = omega (arith, k)
merged_height (t ∷ ts) us m n h k =
    let own_small : unsigned_abs t.coefficient ≤ m = omega (arith, h) in
    let rest_small : height_of ts ≤ m = omega (arith, h) in
    into_height t ts m n own_small (λ vs l. merged_height ts vs m n rest_small l) us k

-- all three
pub merged_is_gathered : (ts us : List Monomial) → IsPolynomial ts → IsPolynomial us
    → IsGathered (sum_of ts us) (height_of ts + height_of us) (merged_of ts us)
merged_is_gathered ts us h k = record {
  ordered = record {
    ordered = (merges ts us h k).ordered;
    same = record { at = λ e. merged_coefficient ts us e ∙ sym (coefficient_at-append ts us e) };
  };
  height = let itself : height_of ts ≤ height_of ts = omega arith in
      let other : height_of us ≤ height_of us = omega arith in merged_height ts us (height_of ts) (height_of us) itself other;
}

-- the steps of a merge at two places
at_places : (a b : List Monomial) (i j : ℕ) (d : Monomial) → i < length a → j < length b
    → merged_of (drop i a) (drop j b)
    ≡ chosen (slice_cmp nat_cmp (get_or b j d).powers (get_or a i d).powers) (get_or a i d) (get_or b j d)
    (merged_of (drop (i + 1) a) (drop j b)) (merged_of (drop (i + 1) a) (drop (j + 1) b)) (merged_of (drop i a) (drop (j + 1) b))
at_places a b i j d h k =
    let x : Monomial = get_or a i d in
    let y : Monomial = get_or b j d in
    let o : Ordering = slice_cmp nat_cmp y.powers x.powers in
    let left = drop_more a i d h in
    let right = drop_more b j d k in
    ap₂ merged_of left right ∙ merged_step x y (drop (i + 1) a) (drop (j + 1) b)
    ∙ ap₂ (λ (f s : List Monomial). chosen o x y (merged_of (drop (i + 1) a) f) (merged_of (drop (i + 1) a) (drop (j + 1) b)) (merged_of s (drop (j + 1) b)))
    (sym right) (sym left)

pub step_first : (all a b : List Monomial) (i j : ℕ) (d : Monomial) → i < length a → j < length b
    → slice_cmp nat_cmp (get_or b j d).powers (get_or a i d).powers ≡ Less
    → all ++ merged_of (drop i a) (drop j b) ≡ merged_of a b
    → (all ++ get_or a i d ∷ []) ++ merged_of (drop (i + 1) a) (drop j b) ≡ merged_of a b
unfolding chosen
step_first all a b i j d h k is so_far =
    append_assoc all (get_or a i d ∷ []) (merged_of (drop (i + 1) a) (drop j b))
    ∙ ap (λ r. all ++ r) (sym (at_places a b i j d h k ∙ ap (λ o. chosen o (get_or a i d) (get_or b j d)
    (merged_of (drop (i + 1) a) (drop j b)) (merged_of (drop (i + 1) a) (drop (j + 1) b)) (merged_of (drop i a) (drop (j + 1) b))) is))
    ∙ so_far

pub step_second : (all a b : List Monomial) (i j : ℕ) (d : Monomial) → i < length a → j < length b
    → slice_cmp nat_cmp (get_or b j d).powers (get_or a i d).powers ≡ Greater
    → all ++ merged_of (drop i a) (drop j b) ≡ merged_of a b
    → (all ++ get_or b j d ∷ []) ++ merged_of (drop i a) (drop (j + 1) b) ≡ merged_of a b
unfolding chosen
step_second all a b i j d h k is so_far =
    append_assoc all (get_or b j d ∷ []) (merged_of (drop i a) (drop (j + 1) b))
    ∙ ap (λ r. all ++ r) (sym (at_places a b i j d h k ∙ ap (λ o. chosen o (get_or a i d) (get_or b j d)
    (merged_of (drop (i + 1) a) (drop j b)) (merged_of (drop (i + 1) a) (drop (j + 1) b)) (merged_of (drop i a) (drop (j + 1) b))) is))
    ∙ so_far

-- with the sum of two terms added, or nothing where it is 0
abbrev pub with_sum : List Monomial → Monomial → Monomial → List Monomial
with_sum all t u =
    if int_eq (t.coefficient +ℤ u.coefficient) (pos 0) then all else (all ++ monomial (t.coefficient +ℤ u.coefficient) t.powers ∷ [])

with_sum-append : (all rest : List Monomial) (t : Monomial) (b : Bool)
    → (if b then all else (all ++ t ∷ [])) ++ rest ≡ all ++ (if b then rest else t ∷ rest)
with_sum-append all rest t true = refl
with_sum-append all rest t false = append_assoc all (t ∷ []) rest

pub step_both : (all a b : List Monomial) (i j : ℕ) (d : Monomial) → i < length a → j < length b
    → slice_cmp nat_cmp (get_or b j d).powers (get_or a i d).powers ≡ Equal
    → all ++ merged_of (drop i a) (drop j b) ≡ merged_of a b
    → with_sum all (get_or a i d) (get_or b j d) ++ merged_of (drop (i + 1) a) (drop (j + 1) b) ≡ merged_of a b
unfolding chosen combined
step_both all a b i j d h k is so_far =
    let t : Monomial = get_or a i d in
    let u : Monomial = get_or b j d in
    with_sum-append all (merged_of (drop (i + 1) a) (drop (j + 1) b)) (monomial (t.coefficient +ℤ u.coefficient) t.powers)
    (int_eq (t.coefficient +ℤ u.coefficient) (pos 0))
    ∙ ap (λ r. all ++ r) (sym (at_places a b i j d h k ∙ ap (λ o. chosen o (get_or a i d) (get_or b j d)
    (merged_of (drop (i + 1) a) (drop j b)) (merged_of (drop (i + 1) a) (drop (j + 1) b)) (merged_of (drop i a) (drop (j + 1) b))) is))
    ∙ so_far

-- at the end of one list the rest of the other is left
pub finish_first : (all a b : List Monomial) (i j : ℕ) → length a ≤ i → all ++ merged_of (drop i a) (drop j b) ≡ merged_of a b
    → all ++ drop i a ++ drop j b ≡ merged_of a b
finish_first all a b i j h so_far =
    let none = drop_all i a h in
    ap (λ x. all ++ x ++ drop j b) none ∙ ap (λ x. x ++ drop j b) (append-nil all)
    ∙ ap (λ x. all ++ x) (sym (ap (λ x. merged_of x (drop j b)) none ∙ merged_nothing_left (drop j b))) ∙ so_far

pub finish_second : (all a b : List Monomial) (i j : ℕ) → length b ≤ j → all ++ merged_of (drop i a) (drop j b) ≡ merged_of a b
    → all ++ drop i a ++ drop j b ≡ merged_of a b
finish_second all a b i j h so_far =
    let none = drop_all j b h in
    ap (λ x. all ++ drop i a ++ x) none ∙ append-nil (all ++ drop i a)
    ∙ ap (λ x. all ++ x) (sym (ap (λ x. merged_of (drop i a) x) none ∙ merged_nothing_right (drop i a))) ∙ so_far
