-- The polynomials of a split formula are canonical where those of the formula are.
use Rattle.std.proofs.Common.{◌≡◌, ℕ, zero, suc, ◌+◌, ◌-◌, ◌<◌, ◌≤◌, max, Bool, true, false, List, [], ◌∷◌, ◌++◌, length, replicate, set, None, Some, pos, refl, sym, ap, ap₂, ◌∙◌, subst, arith}
use Rattle.std.specs.Prelude.{◌*ℤ◌, ℤ, map, nat_eq, nat_lt, ◌==◌, cond, unsigned_abs, if◌then◌else◌}
use Rattle.std.proofs.lemmas.Int.{ints}
use Rattle.std.specs.Ordering.{nat_cmp, ordering_then}
use Rattle.std.proofs.Math.Nat.{one-dvd}
use Rattle.std.specs.declared.cmp.Ordering.TheVariants.{Less, Equal, Greater}
use Rattle.std.specs.Cmp.Lexicographic.{slice_cmp}
use Prim.Native.Nat.{◌∣◌}
use Rattle.theory_meaning.specs.declared.words.Sign.TheVariants.{Zero}
use Rattle.theory_formula.specs.declared.signs.Signs.{Signs}
use Rattle.theory_formula.specs.declared.signs.Signs.TheVariants as set_of
use Rattle.theory_formula.specs.Signs.{has, mirror}
use Rattle.theory_polynomial.specs.Polynomial.{coefficient_at, Monomial, monomial, powers_of_product, symbol_of, IsPolynomial, IsCanonical, HasPositiveFirst, AreSame, greatest_exponent_of, greatest_of}
use Rattle.theory_formula.specs.Formula.{Formula, Formulas, always, never, atom, conjunction, disjunction, none, more, formulas_from, sign_at, EachAtom, EachAtomOfAll}
use Rattle.theory_formula.specs.SignCondition.{decided, IsAtomPolynomial}
use Rattle.theory_polynomial.proofs.FixedOrder.{itself_ties, polynomial_unique}
use Rattle.theory_elimination.proofs.DividedTerms.{EachDivided, all_from_each, each_from_all}
use Rattle.theory_signed.specs.CommonPowers.{common_powers, powers_less, without_powers, with_powers, odd_part, squares_from, crossing_from, all_but}
use Rattle.theory_signed.specs.Split.{condition_on, symbol_is, or_zero, crossed, split_by, split_once, with_squares, split, split_all}
use Rattle.theory_signed.proofs.SplitPowers.{IsUnder, AreUnder, common_under}
use Rattle.theory_signed.proofs.SplitPlaces.{AreBelow, squares_below, Crosses, crossing, common_length, mapped_length, below_limit, none_more, from_start}

-- the order of exponent lists to which the same is added
lt_shift : (m k n : ℕ) → nat_lt (m + k) (m + n) ≡ nat_lt k n
lt_shift m k n = grind arith

eq_shift : (m k n : ℕ) → (m + k) == (m + n) ≡ k == n
eq_shift m k n = grind arith

cmp_shift : (m k n : ℕ) → nat_cmp (m + k) (m + n) ≡ nat_cmp k n
cmp_shift m k n = ap₂ (λ (a b : Bool). cond a Less (cond b Equal Greater)) (lt_shift m k n) (eq_shift m k n)

shifted_cmp : (d e f : List ℕ) → length e ≡ length f → slice_cmp nat_cmp (powers_of_product d e) (powers_of_product d f) ≡ slice_cmp nat_cmp e f
shifted_cmp [] e f h = refl
shifted_cmp (m ∷ d) [] [] h = itself_ties (m ∷ d)
shifted_cmp (m ∷ d) [] (n ∷ f) h = absurd (omega (arith, h))
shifted_cmp (m ∷ d) (n ∷ e) [] h = absurd (omega (arith, h))
shifted_cmp (m ∷ d) (k ∷ e) (n ∷ f) h = ap₂ ordering_then (cmp_shift m k n) (shifted_cmp d e f (omega (arith, h)))

-- numbers
one_divides : (n : ℕ) → 1 ∣ n
one_divides n = one-dvd n

zeros_length : (n : ℕ) → length {A = ℕ} (replicate n 0) ≡ n
zeros_length zero = refl
zeros_length (suc n) = ap suc (zeros_length n)

above_more : (n : ℕ) → 0 < n → 0 < max 0 n
above_more n h = grind (arith, h)

above_first : (n : ℕ) → 0 < n → 0 < max n 0
above_first n h = grind (arith, h)

two_more : (m n : ℕ) → m ≤ n → m ≤ suc (suc n)
two_more m n h = omega (arith, h)

-- each term has 32 places
abbrev HavePlaces : List Monomial → Type 0
HavePlaces [] = Unit {0}
HavePlaces (t ∷ ts) = (length t.powers ≡ 32) × HavePlaces ts

one_times_is : (c : ℤ) → pos 1 *ℤ c ≡ c
one_times_is c = omega (arith, ints)

polynomial_back : (d : List ℕ) (ts : List Monomial) → HavePlaces ts → IsPolynomial (with_powers d ts) → IsPolynomial ts
polynomial_back d [] l h = tt
polynomial_back d (t ∷ []) l h = (record { nonzero = λ e. (h.0).nonzero (one_times_is t.coefficient ∙ e); places = l.0 }, tt, tt)
polynomial_back d (t ∷ u ∷ ts) l h = (
  record { nonzero = λ e. (h.0).nonzero (one_times_is t.coefficient ∙ e); places = l.0 },
  sym (shifted_cmp d u.powers t.powers (l.1.0 ∙ sym l.0)) ∙ h.1,
  polynomial_back d (u ∷ ts) l.1 h.2,
)

divided_with : (n : ℕ) (d : List ℕ) (ts : List Monomial) → EachDivided n ts → EachDivided n (with_powers d ts)
divided_with n d [] h = tt
divided_with n d (t ∷ ts) h = (subst (λ (c : ℤ). n ∣ unsigned_abs c) (sym (one_times_is t.coefficient)) h.0, divided_with n d ts h.1)

first_back : (d : List ℕ) (ts : List Monomial) → HasPositiveFirst (with_powers d ts) → HasPositiveFirst ts
first_back d [] h = absurd h
first_back d (t ∷ ts) h = (h.0, sym (one_times_is t.coefficient) ∙ h.1)

not_none : (ts : List Monomial) → IsCanonical ts → ¬ AreSame ts []
not_none ts h same = subst (λ (us : List Monomial). HasPositiveFirst us) (polynomial_unique ts [] h.ordered tt same) h.first

pub canonical_back : (d : List ℕ) (ts : List Monomial) → HavePlaces ts → IsCanonical (with_powers d ts) → IsCanonical ts
canonical_back d ts l h =
    let ordered : IsPolynomial ts = polynomial_back d ts l h.ordered in
    record {
      ordered = ordered;
      primitive = record {
        positive = (h.primitive).positive;
        divides = λ e. one_divides (unsigned_abs (coefficient_at ts e));
        greatest = λ some n all.
            (h.primitive).greatest (not_none (with_powers d ts) h) n
            (all_from_each n (with_powers d ts) h.ordered (divided_with n d ts (each_from_all n ts ordered all)));
        zero = λ same. refl;
      };
      first = first_back d ts h.first;
    }

-- what is left of a polynomial, with some of its common powers
sum_back : (k n t : ℕ) → k ≤ n → n ≤ t → (n - k) + (k + (t - n)) ≡ t
sum_back k n t h l = omega (arith, h, l)

powers_back : (e c f : List ℕ) → length e ≡ length c → IsUnder e c → IsUnder c f
    → powers_of_product (powers_less c e) (powers_of_product e (powers_less f c)) ≡ f
powers_back [] [] [] l h k = refl
powers_back [] [] (t ∷ f) l h k = refl
powers_back [] (n ∷ c) f l h k = absurd (omega (arith, l))
powers_back (m ∷ e) [] f l h k = absurd h
powers_back (m ∷ e) (n ∷ c) [] l h k = absurd k
powers_back (m ∷ e) (n ∷ c) (t ∷ f) l h k =
    ap₂ (λ (a : ℕ) (as' : List ℕ). a ∷ as') (sum_back m n t h.0 k.0) (powers_back e c f (omega (arith, l)) h.1 k.1)

terms_back : (e c : List ℕ) (ts : List Monomial) → length e ≡ length c → IsUnder e c → AreUnder c ts
    → with_powers (powers_less c e) (with_powers e (without_powers c ts)) ≡ ts
terms_back e c [] l h k = refl
terms_back e c (t ∷ ts) l h k =
    ap₂ (λ (u : Monomial) (us : List Monomial). u ∷ us)
    (ap₂ monomial (one_times_is (pos 1 *ℤ t.coefficient) ∙ one_times_is t.coefficient) (powers_back e c t.powers l h k.0))
    (terms_back e c ts l h k.1)

less_length : (f c : List ℕ) → length (powers_less f c) ≡ length f
less_length [] c = refl
less_length (n ∷ f) [] = refl
less_length (n ∷ f) (m ∷ c) = ap suc (less_length f c)

product_length : (e f : List ℕ) → length e ≤ length f → length (powers_of_product e f) ≡ length f
product_length [] f h = refl
product_length (m ∷ e) [] h = absurd (omega (arith, h))
product_length (m ∷ e) (n ∷ f) h = ap suc (product_length e f (omega (arith, h)))

at_most : (m n k : ℕ) → m ≤ 32 → n ≡ k → k ≡ 32 → m ≤ n
at_most m n k h e l = omega (arith, h, e, l)

left_places : (e c : List ℕ) (ts : List Monomial) → length e ≤ 32 → IsPolynomial ts → HavePlaces (with_powers e (without_powers c ts))
left_places e c [] h k = tt
left_places e c (t ∷ ts) h k =
    let same : length (powers_less t.powers c) ≡ length t.powers = less_length t.powers c in (
      product_length e (powers_less t.powers c) (at_most (length e) (length (powers_less t.powers c)) (length t.powers) h same (k.0).places)
          ∙ same ∙ (k.0).places,
      left_places e c ts h k.2,
    )

pub left_canonical : (e : List ℕ) (P : List Monomial) → length e ≡ length (common_powers P) → IsUnder e (common_powers P) → IsCanonical P
    → IsCanonical (with_powers e (without_powers (common_powers P) P))
left_canonical e P l h k =
    let c : List ℕ = common_powers P in
    canonical_back (powers_less c e) (with_powers e (without_powers c P))
    (left_places e c P (subst (λ (n : ℕ). n ≤ 32) (sym l) (common_length P k.ordered)) k.ordered)
    (subst (λ (ts : List Monomial). IsCanonical ts) (sym (terms_back e c P l h (common_under P))) k)

-- conditions on it
abbrev AreCanonical : Formula → Type 0
AreCanonical F = EachAtom (λ P S. IsAtomPolynomial P) F

abbrev AreAllCanonical : Formulas → Type 0
AreAllCanonical Fs = EachAtomOfAll (λ P S. IsAtomPolynomial P) Fs

decided_canonical : (b : Bool) → AreCanonical (decided b)
decided_canonical true = tt
decided_canonical false = tt

has_some : (n : ℕ) → nat_eq n 0 ≡ false → 0 < n
has_some n h = grind (arith, h)

condition_canonical : (P : List Monomial) (S : Signs) → IsCanonical P → AreCanonical (condition_on P S)
condition_canonical P S h =
    elim (nat_eq (greatest_exponent_of P) 0) as (λ b. nat_eq (greatest_exponent_of P) 0 ≡ b
    → AreCanonical (if b then decided (has S (sign_at P [])) else atom P S)) [
      | true ↦ λ e. decided_canonical (has S (sign_at P []))
      | false ↦ λ e. record { canonical = h; symbol = has_some (greatest_exponent_of P) e }
    ] refl

-- symbols
set_length : (k n m : ℕ) → length (set (replicate n 0) k m) ≡ n
set_length k zero m = refl
set_length zero (suc n) m = ap suc (zeros_length n)
set_length (suc k) (suc n) m = ap suc (set_length k n m)

above_set : (k n : ℕ) → k < n → 0 < greatest_of (set (replicate n 0) k 1)
above_set k zero h = absurd (omega (arith, h))
above_set zero (suc n) h = grind arith
above_set (suc k) (suc n) h = above_more (greatest_of (set (replicate n 0) k 1)) (above_set k n (omega (arith, h)))

symbol_ordered : (x : ℕ) → IsPolynomial (symbol_of x)
symbol_ordered x = (record { nonzero = λ e. absurd cc; places = set_length x 32 1 }, tt, tt)

pub symbol_canonical : (x : ℕ) → x < 32 → IsAtomPolynomial (symbol_of x)
symbol_canonical x h = record {
  canonical = record {
    ordered = symbol_ordered x;
    primitive = record {
      positive = omega arith;
      divides = λ e. one_divides (unsigned_abs (coefficient_at (symbol_of x) e));
      greatest = λ some n all. (each_from_all n (symbol_of x) (symbol_ordered x) all).0;
      zero = λ same. refl;
    };
    first = (0, refl);
  };
  symbol = above_first (greatest_of (set (replicate 32 0) x 1)) (above_set x 32 h);
}

-- the parts
odd_at_most : (n : ℕ) → odd_part n ≤ n
odd_at_most zero = omega arith
odd_at_most (suc zero) = omega arith
odd_at_most (suc (suc n)) = two_more (odd_part n) n (odd_at_most n)

pub odd_under : (c : List ℕ) → IsUnder (map odd_part c) c
odd_under [] = tt
odd_under (n ∷ c) = (odd_at_most n, odd_under c)

pub but_under : (x : ℕ) (e c : List ℕ) → IsUnder e c → IsUnder (all_but x e) c
but_under x [] c h = tt
but_under x (n ∷ e) [] h = absurd h
but_under zero (n ∷ e) (m ∷ c) h = (omega arith, h.1)
but_under (suc x) (n ∷ e) (m ∷ c) h = (h.0, but_under x e c h.1)

pub but_length : (x : ℕ) (e : List ℕ) → length (all_but x e) ≡ length e
but_length x [] = refl
but_length zero (n ∷ e) = refl
but_length (suc x) (n ∷ e) = ap suc (but_length x e)

zero_canonical : (x : ℕ) (S : Signs) → x < 32 → AreAllCanonical (formulas_from (or_zero x S))
zero_canonical x S h =
    elim (has S Zero) as (λ b. AreAllCanonical (formulas_from (if b then symbol_is set_of.Zero x ∷ [] else []))) [
      | true ↦ (symbol_canonical x h, tt)
      | false ↦ tt
    ]

crossed_canonical : (x : ℕ) (Q : List Monomial) (S : Signs) → x < 32 → IsCanonical Q → AreCanonical (crossed x Q S)
crossed_canonical x Q S h k = (
  (symbol_canonical x h, (condition_canonical Q S k, tt)),
  ((symbol_canonical x h, (condition_canonical Q (mirror S) k, tt)), zero_canonical x S h),
)

once_canonical : (P : List Monomial) (S : Signs) → IsCanonical P
    → AreCanonical (split_once (map odd_part (common_powers P)) (without_powers (common_powers P) P) S)
once_canonical P S k =
    let c : List ℕ = common_powers P in
    let e : List ℕ = map odd_part c in
    let ts : List Monomial = without_powers c P in
    let short : length e ≤ 32 = subst (λ (n : ℕ). n ≤ 32) (sym (mapped_length c)) (common_length P k.ordered) in
    elim (crossing_from 0 e (with_powers e ts)) as (λ o. crossing_from 0 e (with_powers e ts) ≡ o → AreCanonical (split_by o e ts S)) [
      | None ↦ λ found. condition_canonical (with_powers e ts) S (left_canonical e P (mapped_length c) (odd_under c) k)
      | Some x ↦ λ found.
          let y : Crosses 0 e x = crossing 0 e (with_powers e ts) x found in
          crossed_canonical x (with_powers (all_but x e) ts) S
          (below_limit (y.place) x (length e) (sym (y.is ∙ none_more (y.place))) (y.below) short)
          (left_canonical (all_but x e) P (but_length x e ∙ mapped_length c) (but_under x e c (odd_under c)) k)
    ] refl

listed_canonical : (S : Signs) (xs : List ℕ) (F : Formula) → AreBelow xs → AreCanonical F
    → AreAllCanonical (formulas_from (map (symbol_is S) xs ++ F ∷ []))
listed_canonical S [] F b h = (h, tt)
listed_canonical S (x ∷ xs) F b h = (symbol_canonical x b.0, listed_canonical S xs F b.1 h)

squares_canonical : (xs : List ℕ) (S : Signs) (F : Formula) → AreBelow xs → AreCanonical F → AreCanonical (with_squares xs S F)
squares_canonical [] S F b h = h
squares_canonical (x ∷ xs) S F b h =
    elim (has S Zero) as (λ c. AreCanonical (if c then disjunction (formulas_from (map (symbol_is set_of.Zero) (x ∷ xs) ++ F ∷ []))
    else conjunction (formulas_from (map (symbol_is set_of.NonZero) (x ∷ xs) ++ F ∷ [])))) [
      | true ↦ listed_canonical set_of.Zero (x ∷ xs) F b h
      | false ↦ listed_canonical set_of.NonZero (x ∷ xs) F b h
    ]

mutual
  pub split_canonical : (F : Formula) → AreCanonical F → AreCanonical (split F)
  split_canonical always h = tt
  split_canonical never h = tt
  split_canonical (atom P S) h =
      squares_canonical (squares_from 0 (common_powers P)) S
      (split_once (map odd_part (common_powers P)) (without_powers (common_powers P) P) S)
      (squares_below 0 (common_powers P) (from_start (length (common_powers P)) (common_length P (h.canonical).ordered)))
      (once_canonical P S h.canonical)
  split_canonical (conjunction Fs) h = all_canonical Fs h
  split_canonical (disjunction Fs) h = all_canonical Fs h

  all_canonical : (Fs : Formulas) → AreAllCanonical Fs → AreAllCanonical (split_all Fs)
  all_canonical none h = tt
  all_canonical (more F Fs) h = (split_canonical F h.0, all_canonical Fs h.1)
