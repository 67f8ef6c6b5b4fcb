-- What is built of common exponents, place by place and term by term, is what is written.
use Rattle.std.proofs.Common.{◌≡◌, ℕ, zero, suc, ◌+◌, ◌-◌, ◌<◌, ◌≤◌, max, min, List, [], ◌∷◌, ◌++◌, length, map, take, pos, refl, sym, ap, ap₂, ◌∙◌, subst, arith}
use Rattle.std.specs.Prelude.{◌*ℤ◌, ℤ, get_or, slice_index, unsigned_abs}
use Rattle.std.proofs.Math.ListN.{set}
use Rattle.std.proofs.lemmas.Int.{ints}
use Rattle.std.proofs.lemmas.Grind.{same_number_lists}
use Rattle.theory_meaning.specs.Limits.{bound}
use Rattle.theory_polynomial.specs.Polynomial.{Monomial, monomial, powers_of_product, greatest_of, greatest_exponent_of, height_of, IsWithinLimits, IsCanonical}
use Rattle.theory_poly.specs.Kept.{IsKept}
use Rattle.theory_signed.specs.CommonPowers.{least_powers, common_powers, powers_less, without_powers, with_powers, odd_part, all_but}
use Rattle.theory_signed.proofs.SplitPowers.{IsUnder, AreUnder, common_under}
use Rattle.theory_signed.proofs.SplitPlaces.{mapped_length}
use Rattle.theory_signed.proofs.SplitCanonical.{left_canonical, odd_under, but_under}

-- the least exponents
pub least_at : (e f : List ℕ) (x : ℕ) → x < length e → x < length f → get_or (least_powers e f) x 0 ≡ min (get_or e x 0) (get_or f x 0)
least_at [] f x h k = absurd (omega (arith, h))
least_at (m ∷ e) [] x h k = absurd (omega (arith, k))
least_at (m ∷ e) (n ∷ f) zero h k = refl
least_at (m ∷ e) (n ∷ f) (suc x) h k = least_at e f x (omega (arith, h)) (omega (arith, k))

pub least_length : (e f : List ℕ) → length e ≡ length f → length (least_powers e f) ≡ length e
least_length [] f h = refl
least_length (m ∷ e) [] h = absurd (omega (arith, h))
least_length (m ∷ e) (n ∷ f) h = ap suc (least_length e f (omega (arith, h)))

least_min : (m n k : ℕ) → min (min m n) k ≡ min m (min n k)
least_min m n k = omega arith

least_again : (m : ℕ) → min m m ≡ m
least_again m = omega arith

least_assoc : (d e f : List ℕ) → least_powers (least_powers d e) f ≡ least_powers d (least_powers e f)
least_assoc [] e f = refl
least_assoc (m ∷ d) [] f = refl
least_assoc (m ∷ d) (n ∷ e) [] = refl
least_assoc (m ∷ d) (n ∷ e) (k ∷ f) = ap₂ (λ (a : ℕ) (as' : List ℕ). a ∷ as') (least_min m n k) (least_assoc d e f)

least_same : (e : List ℕ) → least_powers e e ≡ e
least_same [] = refl
least_same (m ∷ e) = ap₂ (λ (a : ℕ) (as' : List ℕ). a ∷ as') (least_again m) (least_same e)

-- the least of exponents and of those of all terms
abbrev pub least_with : List ℕ → List Monomial → List ℕ
least_with e [] = e
least_with e (t ∷ ts) = least_with (least_powers e t.powers) ts

with_all : (e : List ℕ) (t : Monomial) (ts : List Monomial) → least_with e (t ∷ ts) ≡ least_powers e (common_powers (t ∷ ts))
with_all e t [] = refl
with_all e t (u ∷ ts) = with_all (least_powers e t.powers) u ts ∙ least_assoc e t.powers (common_powers (u ∷ ts))

first_again : (t : Monomial) (ts : List Monomial) → least_powers t.powers (common_powers (t ∷ ts)) ≡ common_powers (t ∷ ts)
first_again t [] = least_same t.powers
first_again t (u ∷ ts) =
    sym (least_assoc t.powers t.powers (common_powers (u ∷ ts))) ∙ ap (λ (e : List ℕ). least_powers e (common_powers (u ∷ ts))) (least_same t.powers)

pub least_of_all : (ts : List Monomial) (d : Monomial) → 0 < length ts → least_with (get_or ts 0 d).powers ts ≡ common_powers ts
least_of_all [] d h = absurd (omega (arith, h))
least_of_all (t ∷ ts) d h = with_all t.powers t ts ∙ first_again t ts

-- exponents place by place
pub odd_at : (e : List ℕ) (x : ℕ) → x < length e → get_or (map odd_part e) x 0 ≡ odd_part (get_or e x 0)
odd_at [] x h = absurd (omega (arith, h))
odd_at (n ∷ e) zero h = refl
odd_at (n ∷ e) (suc x) h = odd_at e x (omega (arith, h))

pub all_but_is_set : (x : ℕ) (e : List ℕ) → x < length e → set e x 0 ≡ all_but x e
all_but_is_set x [] h = refl
all_but_is_set zero (n ∷ e) h = refl
all_but_is_set (suc x) (n ∷ e) h = ap (λ (f : List ℕ). n ∷ f) (all_but_is_set x e (omega (arith, h)))

pub kept_at : (k p c : List ℕ) (x : ℕ) → x < length k → x < length p → x < length c
    → get_or (powers_of_product k (powers_less p c)) x 0 ≡ get_or k x 0 + (get_or p x 0 - get_or c x 0)
kept_at [] p c x h i j = absurd (omega (arith, h))
kept_at (l ∷ k) [] c x h i j = absurd (omega (arith, i))
kept_at (l ∷ k) (m ∷ p) [] x h i j = absurd (omega (arith, j))
kept_at (l ∷ k) (m ∷ p) (n ∷ c) zero h i j = refl
kept_at (l ∷ k) (m ∷ p) (n ∷ c) (suc x) h i j = kept_at k p c x (omega (arith, h)) (omega (arith, i)) (omega (arith, j))

pub kept_length : (k p c : List ℕ) → length k ≡ length p → length p ≡ length c → length (powers_of_product k (powers_less p c)) ≡ length k
kept_length [] [] [] h i = refl
kept_length [] [] (n ∷ c) h i = absurd (omega (arith, i))
kept_length [] (m ∷ p) c h i = absurd (omega (arith, h))
kept_length (l ∷ k) [] c h i = absurd (omega (arith, h))
kept_length (l ∷ k) (m ∷ p) [] h i = absurd (omega (arith, i))
kept_length (l ∷ k) (m ∷ p) (n ∷ c) h i = ap suc (kept_length k p c (omega (arith, h)) (omega (arith, i)))

-- less at each place
pub under_at : (e f : List ℕ) (x : ℕ) → IsUnder e f → slice_index e x ≤ slice_index f x
under_at [] f x h = omega arith
under_at (m ∷ e) [] x h = absurd h
under_at (m ∷ e) (n ∷ f) zero h = h.0
under_at (m ∷ e) (n ∷ f) (suc x) h = under_at e f x h.1

pub at_under : (e f : List ℕ) → length e ≡ length f → ((x : ℕ) → slice_index e x ≤ slice_index f x) → IsUnder e f
at_under [] f l h = tt
at_under (m ∷ e) [] l h = absurd (omega (arith, l))
at_under (m ∷ e) (n ∷ f) l h = (h 0, at_under e f (omega (arith, l)) (λ x. h (suc x)))

pub term_under : (c : List ℕ) (ts : List Monomial) (i : ℕ) (d : Monomial) → AreUnder c ts → i < length ts → IsUnder c (get_or ts i d).powers
term_under c [] i d h k = absurd (omega (arith, k))
term_under c (t ∷ ts) zero d h k = h.0
term_under c (t ∷ ts) (suc i) d h k = term_under c ts i d h.1 (omega (arith, k))

pub common_at : (P : List Monomial) (i : ℕ) (d : Monomial) (x : ℕ) → i < length P
    → slice_index (common_powers P) x ≤ slice_index (get_or P i d).powers x
common_at P i d x h = under_at (common_powers P) (get_or P i d).powers x (term_under (common_powers P) P i d (common_under P) h)

pub odd_below : (c : List ℕ) (x : ℕ) → slice_index (map odd_part c) x ≤ slice_index c x
odd_below c x = under_at (map odd_part c) c x (odd_under c)

pub but_below : (y : ℕ) (c : List ℕ) (x : ℕ) → slice_index (all_but y (map odd_part c)) x ≤ slice_index c x
but_below y c x = under_at (all_but y (map odd_part c)) c x (but_under y (map odd_part c) c (odd_under c))

-- the terms that are left
one_times_is : (c : ℤ) → pos 1 *ℤ c ≡ c
one_times_is c = omega (arith, ints)

pub kept_term : (k c : List ℕ) (t : Monomial) (q : List ℕ) → q ≡ powers_of_product k (powers_less t.powers c)
    → monomial t.coefficient q ≡ monomial (pos 1 *ℤ t.coefficient) (powers_of_product k (powers_less t.powers c))
kept_term k c t q h = ap₂ monomial (sym (one_times_is t.coefficient)) h

same_height : (k c : List ℕ) (ts : List Monomial) → height_of (with_powers k (without_powers c ts)) ≡ height_of ts
same_height k c [] = refl
same_height k c (t ∷ ts) = ap₂ max (ap unsigned_abs (one_times_is t.coefficient)) (same_height k c ts)

same_number : (k c : List ℕ) (ts : List Monomial) → length (with_powers k (without_powers c ts)) ≡ length ts
same_number k c [] = refl
same_number k c (t ∷ ts) = ap suc (same_number k c ts)

not_more : (l n t a b : ℕ) → l ≤ n → n ≤ t → a ≤ b → max (l + (t - n)) a ≤ max t b
not_more l n t a b h i j = omega (arith, h, i, j)

kept_greatest : (k c f : List ℕ) → length k ≡ length c → IsUnder k c → IsUnder c f → greatest_of (powers_of_product k (powers_less f c)) ≤ greatest_of f
kept_greatest [] [] [] l h i = omega arith
kept_greatest [] [] (t ∷ f) l h i = omega arith
kept_greatest [] (n ∷ c) f l h i = absurd (omega (arith, l))
kept_greatest (m ∷ k) [] f l h i = absurd h
kept_greatest (m ∷ k) (n ∷ c) [] l h i = absurd i
kept_greatest (m ∷ k) (n ∷ c) (t ∷ f) l h i =
    not_more m n t (greatest_of (powers_of_product k (powers_less f c))) (greatest_of f) h.0 i.0 (kept_greatest k c f (omega (arith, l)) h.1 i.1)

both_at_most : (a b m n : ℕ) → a ≤ m → b ≤ n → max a b ≤ max m n
both_at_most a b m n h i = omega (arith, h, i)

kept_exponents : (k c : List ℕ) (ts : List Monomial) → length k ≡ length c → IsUnder k c → AreUnder c ts
    → greatest_exponent_of (with_powers k (without_powers c ts)) ≤ greatest_exponent_of ts
kept_exponents k c [] l h i = omega arith
kept_exponents k c (t ∷ ts) l h i =
    both_at_most (greatest_of (powers_of_product k (powers_less t.powers c))) (greatest_exponent_of (with_powers k (without_powers c ts)))
    (greatest_of t.powers) (greatest_exponent_of ts) (kept_greatest k c t.powers l h i.0) (kept_exponents k c ts l h i.1)

at_most_through : (a b n : ℕ) → a ≤ b → b ≤ n → a ≤ n
at_most_through a b n h i = omega (arith, h, i)

pub left_is_canonical : (P : List Monomial) (k c : List ℕ) → IsCanonical P → c ≡ common_powers P → length k ≡ length c
    → ((x : ℕ) → slice_index k x ≤ slice_index c x) → IsCanonical (with_powers k (without_powers c P))
left_is_canonical P k c h e l u =
    subst (λ (d : List ℕ). IsCanonical (with_powers k (without_powers d P))) (sym e)
    (left_canonical k P (l ∙ ap length e) (subst (IsUnder k) e (at_under k c l u)) h)

pub left_is_kept : (P : List Monomial) (k c : List ℕ) → IsCanonical P → IsWithinLimits P → c ≡ common_powers P → length k ≡ length c
    → ((x : ℕ) → slice_index k x ≤ slice_index c x) → IsKept (with_powers k (without_powers c P))
left_is_kept P k c h w e l u = record {
  ordered = (left_is_canonical P k c h e l u).ordered;
  within = record {
    terms = subst (λ (n : ℕ). n ≤ 128) (sym (same_number k c P)) w.terms;
    exponents = at_most_through (greatest_exponent_of (with_powers k (without_powers c P))) (greatest_exponent_of P) 15
        (kept_exponents k c P l (at_under k c l u) (subst (λ (d : List ℕ). AreUnder d P) (sym e) (common_under P))) w.exponents;
    coefficients = subst (λ (n : ℕ). n ≤ bound) (sym (same_height k c P)) w.coefficients;
  };
}

-- lists made place by place
pub least_is : (e f l : List ℕ) → length e ≡ length f → length l ≡ length e
    → ((j : ℕ) → j < length l → get_or l j 0 ≡ min (get_or e j 0) (get_or f j 0)) → l ≡ least_powers e f
least_is e f l same long h =
    same_number_lists l (least_powers e f) (long ∙ sym (least_length e f same))
    (λ j below. h j below ∙ sym (least_at e f j (omega (arith, below, long)) (omega (arith, below, long, same))))

pub odd_is : (e l : List ℕ) → length l ≡ length e → ((j : ℕ) → j < length l → get_or l j 0 ≡ odd_part (get_or e j 0)) → l ≡ map odd_part e
odd_is e l long h =
    same_number_lists l (map odd_part e) (long ∙ sym (mapped_length e)) (λ j below. h j below ∙ sym (odd_at e j (omega (arith, below, long))))

pub kept_is : (k p c l : List ℕ) → length k ≡ length p → length p ≡ length c → length l ≡ length k
    → ((j : ℕ) → j < length l → get_or l j 0 ≡ get_or k j 0 + (get_or p j 0 - get_or c j 0)) → l ≡ powers_of_product k (powers_less p c)
kept_is k p c l first second long h =
    same_number_lists l (powers_of_product k (powers_less p c)) (long ∙ sym (kept_length k p c first second))
    (λ j below. h j below
    ∙ sym (kept_at k p c j (omega (arith, below, long)) (omega (arith, below, long, first)) (omega (arith, below, long, first, second))))

-- a list with one more place
pub set_step : (xs : List ℕ) (x v : ℕ) (f : ℕ → ℕ) → x < length xs → v ≡ f x → ((j : ℕ) → j < x → get_or xs j 0 ≡ f j) → (j : ℕ) → j < x + 1
    → get_or (set xs x v) j 0 ≡ f j
set_step [] x v f h e k j l = absurd (omega (arith, h))
set_step (y ∷ xs) zero v f h e k zero l = e
set_step (y ∷ xs) zero v f h e k (suc j) l = absurd (omega (arith, l))
set_step (y ∷ xs) (suc x) v f h e k zero l = k 0 (omega arith)
set_step (y ∷ xs) (suc x) v f h e k (suc j) l =
    set_step xs x v (λ i. f (suc i)) (omega (arith, h)) e (λ i m. k (suc i) (omega (arith, m))) j (omega (arith, l))

pub set_long : (xs : List ℕ) (x v n : ℕ) → length xs ≡ n → length (set xs x v) ≡ n
set_long [] x v n h = h
set_long (y ∷ xs) zero v n h = h
set_long (y ∷ xs) (suc x) v n h = ap suc (set_long xs x v (length xs) refl) ∙ h

-- the terms, one by one
pub common_within : (P ts : List Monomial) (c : List ℕ) (i : ℕ) (d : Monomial) → ts ≡ P → c ≡ common_powers P → i < length ts → (x : ℕ)
    → slice_index c x ≤ slice_index (get_or ts i d).powers x
common_within P ts c i d same e h x =
    subst (λ (a : List ℕ). slice_index a x ≤ slice_index (get_or ts i d).powers x) (sym e)
    (subst (λ (us : List Monomial). slice_index (common_powers us) x ≤ slice_index (get_or ts i d).powers x) same (common_at ts i d x h))

abbrev left_term : List ℕ → List ℕ → Monomial → Monomial
left_term k c t = monomial (pos 1 *ℤ t.coefficient) (powers_of_product k (powers_less t.powers c))

kept_take : (k c : List ℕ) (ts : List Monomial) (i : ℕ) (d : Monomial) → i < length ts
    → with_powers k (without_powers c (take i ts)) ++ left_term k c (get_or ts i d) ∷ [] ≡ with_powers k (without_powers c (take (suc i) ts))
kept_take k c [] i d h = absurd (omega (arith, h))
kept_take k c (t ∷ ts) zero d h = refl
kept_take k c (t ∷ ts) (suc i) d h = ap (λ (us : List Monomial). left_term k c t ∷ us) (kept_take k c ts i d (omega (arith, h)))

one_after : (i : ℕ) → suc i ≡ i + 1
one_after i = omega arith

pub kept_step : (k c : List ℕ) (P ts : List Monomial) (i : ℕ) (d : Monomial) (done new : List Monomial) (u : Monomial) → ts ≡ P → i < length ts
    → done ≡ with_powers k (without_powers c (take i P))
    → u ≡ monomial (get_or ts i d).coefficient (powers_of_product k (powers_less (get_or ts i d).powers c)) → new ≡ done ++ u ∷ []
    → new ≡ with_powers k (without_powers c (take (i + 1) P))
kept_step k c P ts i d done new u same h so_far made grown =
    grown
    ∙ ap (λ (us : List Monomial). us ++ u ∷ [])
    (so_far ∙ ap (λ (us : List Monomial). with_powers k (without_powers c (take i us))) (sym same))
    ∙ ap (λ (t : Monomial). with_powers k (without_powers c (take i ts)) ++ t ∷ []) (made ∙ kept_term k c (get_or ts i d) _ refl)
    ∙ kept_take k c ts i d h
    ∙ ap (λ (us : List Monomial). with_powers k (without_powers c (take (suc i) us))) same
    ∙ ap (λ (n : ℕ). with_powers k (without_powers c (take n P))) (one_after i)

take_whole : (ts : List Monomial) (i : ℕ) → length ts ≤ i → take i ts ≡ ts
take_whole [] zero h = refl
take_whole [] (suc i) h = refl
take_whole (t ∷ ts) zero h = absurd (omega (arith, h))
take_whole (t ∷ ts) (suc i) h = ap (λ (us : List Monomial). t ∷ us) (take_whole ts i (omega (arith, h)))

pub all_kept : (k c : List ℕ) (P ts : List Monomial) (i : ℕ) (done : List Monomial) → ts ≡ P → length ts ≤ i
    → done ≡ with_powers k (without_powers c (take i P)) → done ≡ with_powers k (without_powers c P)
all_kept k c P ts i done same h so_far =
    so_far ∙ ap (λ (us : List Monomial). with_powers k (without_powers c us)) (take_whole P i (subst (λ (us : List Monomial). length us ≤ i) same h))
