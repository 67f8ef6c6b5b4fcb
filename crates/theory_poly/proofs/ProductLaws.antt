-- Products of polynomials by rows: their order and the size of their coefficients.
use Rattle.std.proofs.Common.{◌≡◌, ◌≢◌, ℕ, zero, suc, ◌+◌, ◌*◌, ◌^◌, ◌<◌, ◌≤◌, ℤ, pos, negsuc, ◌*ℤ◌, List, [], ◌∷◌, ◌++◌, length, get_or, take, drop, set, max, append_assoc, refl, sym, ap, ap₂, ◌∙◌, subst, arith, unsigned_abs}
use Rattle.std.specs.Ordering.{nat_cmp, ordering_then}
use Rattle.std.specs.Cmp.Lexicographic.{slice_cmp}
use Rattle.std.proofs.lemmas.Int.{ints, unsigned_abs-mul}
use Rattle.std.proofs.lemmas.List.{append-nil, take-append-drop, take_more, take_more_set, take_all, map-append, length-append, length-map, length-take-le, length-take, length-drop}
use Rattle.theory_meaning.specs.Limits.{bound}
use Rattle.theory_polynomial.specs.Polynomial.{Monomial, monomial, IsTerm, PrecedesFirst, IsPolynomial, scaled, sum_of, powers_of_product, multiple_of, product_of, cross_of, height_of, greatest_of, greatest_exponent_of}
use Rattle.theory_polynomial.proofs.CoefficientLaws.{same_itself, times_times}
use Rattle.theory_poly.specs.Kept.{IsKept, IsKeptTerm, IsGathered}
use Rattle.theory_poly.proofs.ScaleLaws.{product_is_not_zero, product_within, scaled_ordered, gathered_sum}

-- equal summands keep the order of exponents
same_order : (m x y : ℕ) → nat_cmp (m + x) (m + y) ≡ nat_cmp x y
same_order m x y = grind arith

powers_order : (p e f : List ℕ) → length p ≡ length e → length p ≡ length f
    → slice_cmp nat_cmp (powers_of_product p f) (powers_of_product p e) ≡ slice_cmp nat_cmp f e
powers_order [] [] [] h k = refl
powers_order [] (x ∷ e) f h k = absurd (omega arith)
powers_order [] [] (y ∷ f) h k = absurd (omega arith)
powers_order (m ∷ p) [] f h k = absurd (omega arith)
powers_order (m ∷ p) (x ∷ e) [] h k = absurd (omega arith)
powers_order (m ∷ p) (x ∷ e) (y ∷ f) h k =
    ap₂ ordering_then (same_order m y x) (powers_order p e f (omega arith) (omega arith))

powers_length : (p e : List ℕ) → length p ≡ length e → length (powers_of_product p e) ≡ length e
powers_length [] e h = refl
powers_length (m ∷ p) [] h = absurd (omega arith)
powers_length (m ∷ p) (x ∷ e) h = let r = powers_length p e (omega arith) in omega (arith, r)

-- a row is in the fixed order
row_first : (t u : Monomial) (us : List Monomial) → length t.powers ≡ 32 → length u.powers ≡ 32 → IsPolynomial us → PrecedesFirst u.powers us
    → PrecedesFirst (powers_of_product t.powers u.powers) (multiple_of t us)
row_first t u [] h k l m = tt
row_first t u (v ∷ us) h k l m = powers_order t.powers u.powers v.powers (h ∙ sym k) (h ∙ sym l.0.places) ∙ m

row_ordered : (t : Monomial) (us : List Monomial) → IsTerm t → IsPolynomial us → IsPolynomial (multiple_of t us)
row_ordered t [] h k = tt
row_ordered t (u ∷ us) h k = (
  record {
    nonzero = product_is_not_zero t.coefficient u.coefficient h.nonzero k.0.nonzero;
    places = powers_length t.powers u.powers (h.places ∙ sym k.0.places) ∙ k.0.places;
  },
  row_first t u us h.places k.0.places k.2 k.1,
  row_ordered t us h k.2,
)

row_height : (t : Monomial) (us : List Monomial) → unsigned_abs t.coefficient ≤ bound → height_of us ≤ bound → height_of (multiple_of t us) ≤ 2 ^ 116
row_height t [] h k = omega arith
row_height t (u ∷ us) h k =
    let own = unsigned_abs-mul t.coefficient u.coefficient in
    let first : unsigned_abs u.coefficient ≤ bound = omega (arith, k) in
    let rest : height_of us ≤ bound = omega (arith, k) in
    let small = product_within (unsigned_abs t.coefficient) (unsigned_abs u.coefficient) h first in
    let r = row_height t us h rest in omega (arith, own, small, r)

pub gathered_row : (t : Monomial) (ts us r : List Monomial) → IsKeptTerm t → IsKept us → ts ≡ t ∷ [] → r ≡ multiple_of t us
    → IsGathered (product_of ts us) (length ts * 2 ^ 116) r
gathered_row t ts us r h k one is =
    subst (λ z. IsGathered (product_of z us) (length z * 2 ^ 116) r) (sym one)
    (subst (IsGathered (multiple_of t us ++ []) (2 ^ 116)) (sym is)
    (subst (λ z. IsGathered z (2 ^ 116) (multiple_of t us)) (sym (append-nil (multiple_of t us))) (record {
      ordered = record { ordered = row_ordered t us h.term k.ordered; same = same_itself (multiple_of t us) };
      height = row_height t us h.coefficient k.within.coefficients;
    })))

pub gathered_none : (ts us : List Monomial) (m : ℕ) → ts ≡ [] → IsGathered (product_of ts us) m []
gathered_none ts us m none = subst (λ z. IsGathered (product_of z us) m []) (sym none)
    (record { ordered = record { ordered = tt; same = same_itself [] }; height = omega arith })

-- products by the halves of the first
product-append : (ts us vs : List Monomial) → product_of (ts ++ us) vs ≡ product_of ts vs ++ product_of us vs
product-append [] us vs = refl
product-append (t ∷ ts) us vs =
    ap (λ z. multiple_of t vs ++ z) (product-append ts us vs) ∙ sym (append_assoc (multiple_of t vs) (product_of ts vs) (product_of us vs))

pub product_by_halves : (k : ℕ) (ts vs : List Monomial) → product_of ts vs ≡ sum_of (product_of (take k ts) vs) (product_of (drop k ts) vs)
product_by_halves k ts vs = ap (λ z. product_of z vs) (sym (take-append-drop k ts)) ∙ product-append (take k ts) (drop k ts) vs

-- a beginning and an end of what is kept is kept
first_taken : (k : ℕ) (e : List ℕ) (ts : List Monomial) → PrecedesFirst e ts → PrecedesFirst e (take k ts)
first_taken zero e ts h = tt
first_taken (suc k) e [] h = tt
first_taken (suc k) e (t ∷ ts) h = h

ordered_taken : (k : ℕ) (ts : List Monomial) → IsPolynomial ts → IsPolynomial (take k ts)
ordered_taken zero ts h = tt
ordered_taken (suc k) [] h = tt
ordered_taken (suc k) (t ∷ ts) h = (h.0, first_taken k t.powers ts h.1, ordered_taken k ts h.2)

ordered_dropped : (k : ℕ) (ts : List Monomial) → IsPolynomial ts → IsPolynomial (drop k ts)
ordered_dropped zero ts h = h
ordered_dropped (suc k) [] h = tt
ordered_dropped (suc k) (t ∷ ts) h = ordered_dropped k ts h.2

record IsNotMore (ts us : List Monomial) : Type 0 where
  terms : length ts ≤ length us
  exponents : greatest_exponent_of ts ≤ greatest_exponent_of us
  coefficients : height_of ts ≤ height_of us

taken_not_more : (k : ℕ) (ts : List Monomial) → IsNotMore (take k ts) ts
taken_not_more zero ts = record { terms = omega arith; exponents = omega arith; coefficients = omega arith }
taken_not_more (suc k) [] = record { terms = omega arith; exponents = omega arith; coefficients = omega arith }
taken_not_more (suc k) (t ∷ ts) =
    let r = taken_not_more k ts in
    record { terms = omega (arith, r.terms); exponents = omega (arith, r.exponents); coefficients = omega (arith, r.coefficients) }

dropped_not_more : (k : ℕ) (ts : List Monomial) → IsNotMore (drop k ts) ts
dropped_not_more zero ts = record { terms = omega arith; exponents = omega arith; coefficients = omega arith }
dropped_not_more (suc k) [] = record { terms = omega arith; exponents = omega arith; coefficients = omega arith }
dropped_not_more (suc k) (t ∷ ts) =
    let r = dropped_not_more k ts in
    record { terms = omega (arith, r.terms); exponents = omega (arith, r.exponents); coefficients = omega (arith, r.coefficients) }

kept_not_more : (ts us : List Monomial) → IsPolynomial ts → IsNotMore ts us → IsKept us → IsKept ts
kept_not_more ts us h l k = record {
  ordered = h;
  within = record {
    terms = omega (arith, l.terms, k.within.terms);
    exponents = omega (arith, l.exponents, k.within.exponents);
    coefficients = omega (arith, l.coefficients, k.within.coefficients);
  };
}

pub kept_taken : (k : ℕ) (ts us : List Monomial) → us ≡ take k ts → IsKept ts → IsKept us
kept_taken k ts us is h = subst IsKept (sym is) (kept_not_more (take k ts) ts (ordered_taken k ts h.ordered) (taken_not_more k ts) h)

pub kept_dropped : (k : ℕ) (ts us : List Monomial) → us ≡ drop k ts → IsKept ts → IsKept us
kept_dropped k ts us is h = subst IsKept (sym is) (kept_not_more (drop k ts) ts (ordered_dropped k ts h.ordered) (dropped_not_more k ts) h)

-- each of its terms is kept
pub kept_term : (ts : List Monomial) (i : ℕ) (d : Monomial) → i < length ts → IsKept ts → IsKeptTerm (get_or ts i d)
kept_term [] i d h k = absurd (omega arith)
kept_term (t ∷ ts) zero d h k = record { term = k.ordered.0; exponents = omega (arith, k.within.exponents); coefficient = omega (arith, k.within.coefficients) }
kept_term (t ∷ ts) (suc i) d h k = kept_term ts i d (omega arith) (kept_dropped 1 (t ∷ ts) ts refl k)

-- the product by halves of what was gathered
pub gathered_product : (k : ℕ) (ts us low high a b x y r : List Monomial) → low ≡ take k ts → high ≡ drop k ts
    → IsGathered (product_of low us) (length low * 2 ^ 116) a → IsGathered (product_of high us) (length high * 2 ^ 116) b → x ≡ a → y ≡ b
    → IsGathered (sum_of x y) (height_of x + height_of y) r → IsGathered (product_of ts us) (length ts * 2 ^ 116) r
gathered_product k ts us low high a b x y r is_low is_high h l is_x is_y g =
    let parts : length low + length high ≡ length ts =
    sym (length-append low high) ∙ ap length (ap₂ ◌++◌ is_low is_high ∙ take-append-drop k ts) in
    let all = gathered_sum (product_of low us) (product_of high us) a b r x y (length low * 2 ^ 116) (length high * 2 ^ 116) (length ts * 2 ^ 116)
    (omega (arith, parts)) h l is_x is_y g in
    subst (λ z. IsGathered z (length ts * 2 ^ 116) r)
    (sym (product_by_halves k ts us ∙ ap₂ (λ m n. sum_of (product_of m us) (product_of n us)) (sym is_low) (sym is_high))) all

multiple_of_scaled : (n : ℤ) (t : Monomial) (us : List Monomial) → multiple_of (monomial (n *ℤ t.coefficient) t.powers) us ≡ scaled n (multiple_of t us)
multiple_of_scaled n t [] = refl
multiple_of_scaled n t (u ∷ us) =
    ap₂ (λ (c : ℤ) (r : List Monomial). monomial c (powers_of_product t.powers u.powers) ∷ r)
    (sym (times_times n t.coefficient u.coefficient)) (multiple_of_scaled n t us)

-- a turned factor turns the product
pub product_of_scaled : (n : ℤ) (ts us : List Monomial) → product_of (scaled n ts) us ≡ scaled n (product_of ts us)
product_of_scaled n [] us = refl
product_of_scaled n (t ∷ ts) us =
    ap₂ ◌++◌ (multiple_of_scaled n t us) (product_of_scaled n ts us)
    ∙ sym (map-append (λ u. monomial (n *ℤ u.coefficient) u.powers) (multiple_of t us) (product_of ts us))

-- what is turned is kept
turned_size : (c : ℤ) → unsigned_abs (negsuc 0 *ℤ c) ≡ unsigned_abs c
turned_size c = grind (arith, ints)

turned_height : (ts : List Monomial) → height_of (scaled (negsuc 0) ts) ≡ height_of ts
turned_height [] = refl
turned_height (t ∷ ts) = ap₂ max (turned_size t.coefficient) (turned_height ts)

turned_exponents : (ts : List Monomial) → greatest_exponent_of (scaled (negsuc 0) ts) ≡ greatest_exponent_of ts
turned_exponents [] = refl
turned_exponents (t ∷ ts) = ap (max (greatest_of t.powers)) (turned_exponents ts)

minus_one_is_not_zero : negsuc 0 ≢ pos 0
minus_one_is_not_zero e = absurd (omega (arith, ints, e))

pub kept_turned : (ts r x : List Monomial) → r ≡ scaled (negsuc 0) ts → x ≡ r → IsKept ts → IsKept x
kept_turned ts r x is same h = subst IsKept (sym (same ∙ is)) (record {
  ordered = scaled_ordered (negsuc 0) ts minus_one_is_not_zero h.ordered;
  within = record {
    terms = let e = length-map ts (λ t. monomial (negsuc 0 *ℤ t.coefficient) t.powers) in omega (arith, e, h.within.terms);
    exponents = let e = turned_exponents ts in omega (arith, e, h.within.exponents);
    coefficients = let e = turned_height ts in omega (arith, e, h.within.coefficients);
  };
})

-- the difference of two products from the sum with the turned one
pub gathered_cross : (a b2 a2 b p q t r v x y : List Monomial) → length a ≤ 128 → length a2 ≤ 128 → t ≡ scaled (negsuc 0) a2 → v ≡ t
    → IsGathered (product_of a b2) (length a * 2 ^ 116) p → IsGathered (product_of v b) (length v * 2 ^ 116) q → x ≡ p → y ≡ q
    → IsGathered (sum_of x y) (height_of x + height_of y) r → IsGathered (cross_of a b2 a2 b) (2 ^ 124) r
gathered_cross a b2 a2 b p q t r v x y few more is same h l is_x is_y g =
    let turned : product_of v b ≡ scaled (negsuc 0) (product_of a2 b) = ap (λ z. product_of z b) (same ∙ is) ∙ product_of_scaled (negsuc 0) a2 b in
    let as_many : length v ≡ length a2 = ap length (same ∙ is) ∙ length-map a2 (λ t. monomial (negsuc 0 *ℤ t.coefficient) t.powers) in
    subst (λ z. IsGathered (sum_of (product_of a b2) z) (2 ^ 124) r) turned
    (gathered_sum (product_of a b2) (product_of v b) p q r x y (length a * 2 ^ 116) (length v * 2 ^ 116) (2 ^ 124)
    (omega (arith, few, more, as_many)) h l is_x is_y g)

-- exponents, place by place
pub greatest_at : (e : List ℕ) (k : ℕ) → k < length e → get_or e k 0 ≤ greatest_of e
greatest_at [] k h = absurd (omega arith)
greatest_at (n ∷ e) zero h = omega arith
greatest_at (n ∷ e) (suc k) h = let r = greatest_at e k (omega arith) in omega (arith, r)

powers-push : (e f : List ℕ) (m n : ℕ) → length e ≡ length f → powers_of_product (e ++ m ∷ []) (f ++ n ∷ []) ≡ powers_of_product e f ++ (m + n) ∷ []
powers-push [] [] m n h = refl
powers-push [] (y ∷ f) m n h = absurd (omega arith)
powers-push (x ∷ e) [] m n h = absurd (omega arith)
powers-push (x ∷ e) (y ∷ f) m n h = ap (λ r. (x + y) ∷ r) (powers-push e f m n (omega arith))

pub powers_more : (sums e f : List ℕ) (k : ℕ) → k < length sums → k < length e → k < length f → take k sums ≡ powers_of_product (take k e) (take k f)
    → take (k + 1) (set sums k (get_or e k 0 + get_or f k 0)) ≡ powers_of_product (take (k + 1) e) (take (k + 1) f)
powers_more sums e f k h l m so_far =
    take_more_set sums k (get_or e k 0 + get_or f k 0) h
    ∙ ap (λ r. r ++ (get_or e k 0 + get_or f k 0) ∷ []) so_far
    ∙ sym (ap₂ powers_of_product (take_more e k 0 l) (take_more f k 0 m)
    ∙ powers-push (take k e) (take k f) (get_or e k 0) (get_or f k 0) (length-take-le k e (omega arith) ∙ sym (length-take-le k f (omega arith))))

pub powers_all : (sums e f : List ℕ) (k : ℕ) → length sums ≤ k → length e ≤ k → length f ≤ k → take k sums ≡ powers_of_product (take k e) (take k f)
    → sums ≡ powers_of_product e f
powers_all sums e f k h l m so_far = sym (take_all k sums h) ∙ so_far ∙ ap₂ powers_of_product (take_all k e l) (take_all k f m)

-- a list of one
pub only_one : (ts : List Monomial) (d : Monomial) → length ts ≡ 1 → ts ≡ get_or ts 0 d ∷ []
only_one [] d h = absurd (omega arith)
only_one (t ∷ []) d h = refl
only_one (t ∷ u ∷ ts) d h = absurd (omega arith)

-- a beginning and an end are shorter
pub shorter_taken : (k : ℕ) (ts : List Monomial) → k < length ts → length (take k ts) < length ts
shorter_taken k ts h = let e = length-take k ts in omega (arith, e)

pub shorter_dropped : (k : ℕ) (ts us : List Monomial) → us ≡ drop k ts → 0 < k → 0 < length ts → length us < length ts
shorter_dropped k ts us is h l = let e = ap length is ∙ length-drop k ts in omega (arith, e)
