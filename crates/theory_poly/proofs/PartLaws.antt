-- The terms with one exponent of a symbol: their order, and the polynomial from its parts.
use Rattle.std.proofs.Common.{◌≡◌, ℕ, zero, suc, ◌+◌, ◌≤◌, ℤ, pos, ◌+ℤ◌, ◌*ℤ◌, true, false, List, [], ◌∷◌, ◌++◌, length, get_or, set, replicate, refl, sym, ap, ap₂, ◌∙◌, subst, subst₂, arith, inl, inr}
use Rattle.std.specs.Prelude.{if◌then◌else◌, ◌==◌, filter, map, cond}
use Rattle.std.specs.Ordering.{nat_cmp, ordering_then}
use Rattle.std.specs.Cmp.Lexicographic.{slice_cmp}
use Rattle.std.specs.Str.{bytes_eq}
use Rattle.std.proofs.lemmas.Bool.{cases_Bool}
use Rattle.std.proofs.lemmas.Int.{ints}
use Rattle.std.proofs.lemmas.List.{length-set}
use Rattle.theory_polynomial.specs.Polynomial.{Monomial, monomial, AreSame, IsTerm, PrecedesFirst, IsPolynomial, IsSplit, IsLinearIn, IsFreeOf, exponent_of, degree_in, greatest_of, greatest_exponent_of, height_of, product_of, powers_of_product, symbol_of, no_powers, sum_of}
use Rattle.theory_polynomial.specs.PolynomialValue.{part_of}
use Rattle.theory_polynomial.proofs.FixedOrder.{precedes_rest}
use Rattle.theory_polynomial.proofs.CoefficientLaws.{coefficient_at-append}
use Rattle.theory_poly.specs.Kept.{IsKept}

-- equal numbers at one place may be left out of a comparison
same_order : (n m k : ℕ) → n ≡ k → m ≡ k → nat_cmp n m ≡ nat_cmp 0 0
same_order n m k h l = grind arith

set_order : (e f : List ℕ) (x k : ℕ) → get_or e x 0 ≡ k → get_or f x 0 ≡ k → length e ≡ length f
    → slice_cmp nat_cmp (set f x 0) (set e x 0) ≡ slice_cmp nat_cmp f e
set_order [] [] x k h l m = refl
set_order [] (n ∷ f) x k h l m = absurd (omega arith)
set_order (n ∷ e) [] x k h l m = absurd (omega arith)
set_order (n ∷ e) (o ∷ f) zero k h l m = ap (λ r. ordering_then r (slice_cmp nat_cmp f e)) (sym (same_order o n k l h))
set_order (n ∷ e) (o ∷ f) (suc x) k h l m = ap (ordering_then (nat_cmp o n)) (set_order e f x k h l (omega arith))

-- a term without the symbol
without : ℕ → Monomial → Monomial
without x t = monomial t.coefficient (set t.powers x 0)

eq_means : (m n : ℕ) → (m == n) ≡ true → m ≡ n
eq_means m n h = grind arith

-- the parts of a list with one more term
part_taken : (x k : ℕ) (t : Monomial) (ts : List Monomial) → (exponent_of x t == k) ≡ true →
    part_of x k (t ∷ ts) ≡ monomial t.coefficient (set t.powers x 0) ∷ part_of x k ts
part_taken x k t ts h = ap (λ b. map (λ t. monomial t.coefficient (set t.powers x 0))
    (cond b (t ∷ filter (λ t. exponent_of x t == k) ts) (filter (λ t. exponent_of x t == k) ts))) h

part_left : (x k : ℕ) (t : Monomial) (ts : List Monomial) → (exponent_of x t == k) ≡ false → part_of x k (t ∷ ts) ≡ part_of x k ts
part_left x k t ts h = ap (λ b. map (λ t. monomial t.coefficient (set t.powers x 0))
    (cond b (t ∷ filter (λ t. exponent_of x t == k) ts) (filter (λ t. exponent_of x t == k) ts))) h

part_first : (x k : ℕ) (t : Monomial) (ts : List Monomial) → length t.powers ≡ 32 → get_or t.powers x 0 ≡ k → PrecedesFirst t.powers ts → IsPolynomial ts
    → PrecedesFirst (set t.powers x 0) (part_of x k ts)
part_first x k t [] places is h l = tt
part_first x k t (u ∷ ts) places is h l =
    elim (cases_Bool (exponent_of x u == k)) [
      | inl same ↦ subst (PrecedesFirst (set t.powers x 0)) (sym (part_taken x k u ts same))
          (set_order t.powers u.powers x k is (eq_means _ _ same) (places ∙ sym l.0.places) ∙ h)
      | inr apart ↦ subst (PrecedesFirst (set t.powers x 0)) (sym (part_left x k u ts apart))
          (part_first x k t ts places is (precedes_rest t.powers u.powers ts h l.1) l.2)
    ]

-- a part is in the fixed order
part_ordered : (x k : ℕ) (ts : List Monomial) → IsPolynomial ts → IsPolynomial (part_of x k ts)
part_ordered x k [] h = tt
part_ordered x k (t ∷ ts) h =
    elim (cases_Bool (exponent_of x t == k)) [
      | inl same ↦ subst IsPolynomial (sym (part_taken x k t ts same)) (
        record { nonzero = h.0.nonzero; places = length-set t.powers x 0 ∙ h.0.places },
        part_first x k t ts h.0.places (eq_means _ _ same) h.1 h.2,
        part_ordered x k ts h.2,
      )
      | inr apart ↦ subst IsPolynomial (sym (part_left x k t ts apart)) (part_ordered x k ts h.2)
    ]

-- and no greater
greatest_of-set_zero : (e : List ℕ) (x : ℕ) → greatest_of (set e x 0) ≤ greatest_of e
greatest_of-set_zero [] x = omega arith
greatest_of-set_zero (n ∷ e) zero = omega arith
greatest_of-set_zero (n ∷ e) (suc x) = let r = greatest_of-set_zero e x in omega (arith, r)

record IsNoGreater (us ts : List Monomial) : Type 0 where
  terms : length us ≤ length ts
  exponents : greatest_exponent_of us ≤ greatest_exponent_of ts
  coefficients : height_of us ≤ height_of ts

part_no_greater : (x k : ℕ) (ts : List Monomial) → IsNoGreater (part_of x k ts) ts
part_no_greater x k [] = record { terms = omega arith; exponents = omega arith; coefficients = omega arith }
part_no_greater x k (t ∷ ts) =
    let r = part_no_greater x k ts in
    elim (cases_Bool (exponent_of x t == k)) [
      | inl same ↦ subst (λ z. IsNoGreater z (t ∷ ts)) (sym (part_taken x k t ts same))
          (let s = greatest_of-set_zero t.powers x in
          record { terms = omega (arith, r.terms); exponents = omega (arith, r.exponents, s); coefficients = omega (arith, r.coefficients) })
      | inr apart ↦ subst (λ z. IsNoGreater z (t ∷ ts)) (sym (part_left x k t ts apart))
          (record { terms = omega (arith, r.terms); exponents = omega (arith, r.exponents); coefficients = omega (arith, r.coefficients) })
    ]

pub kept_part : (x k : ℕ) (ts r : List Monomial) → r ≡ part_of x k ts → IsKept ts → IsKept r
kept_part x k ts r is h =
    let small = part_no_greater x k ts in
    subst IsKept (sym is) (record {
      ordered = part_ordered x k ts h.ordered;
      within = record {
        terms = omega (arith, small.terms, h.within.terms);
        exponents = omega (arith, small.exponents, h.within.exponents);
        coefficients = omega (arith, small.coefficients, h.within.coefficients);
      };
    })

-- it is free of the symbol
set_zero : (e : List ℕ) (x : ℕ) → get_or (set e x 0) x 0 ≡ 0
set_zero [] x = refl
set_zero (n ∷ e) zero = refl
set_zero (n ∷ e) (suc x) = set_zero e x

pub part_free : (x k : ℕ) (ts : List Monomial) → IsFreeOf x (part_of x k ts)
part_free x k [] = refl
part_free x k (t ∷ ts) =
    let r = part_free x k ts in
    elim (cases_Bool (exponent_of x t == k)) [
      | inl same ↦ subst (IsFreeOf x) (sym (part_taken x k t ts same)) (let s = set_zero t.powers x in omega (arith, r, s))
      | inr apart ↦ subst (IsFreeOf x) (sym (part_left x k t ts apart)) r
    ]

-- exponents that are 0 or 1 at the symbol
set_nothing : (e : List ℕ) (x : ℕ) → get_or e x 0 ≡ 0 → set e x 0 ≡ e
set_nothing [] x h = refl
set_nothing (n ∷ e) zero h = ap (λ m. m ∷ e) (sym h)
set_nothing (n ∷ e) (suc x) h = ap (λ f. n ∷ f) (set_nothing e x h)

plus_nothing : (e : List ℕ) (n : ℕ) → length e ≡ n → powers_of_product e (replicate n 0) ≡ e
plus_nothing [] n h = ap (λ m. replicate m 0) (sym h)
plus_nothing (m ∷ e) zero h = absurd (omega arith)
plus_nothing (m ∷ e) (suc n) h =
    let same : m + 0 ≡ m = omega arith in
    ap₂ (λ (k : ℕ) (f : List ℕ). k ∷ f) same (plus_nothing e n (omega arith))

symbol_restored : (e : List ℕ) (x n : ℕ) → length e ≡ n → get_or e x 0 ≡ 1 → powers_of_product (set e x 0) (set (replicate n 0) x 1) ≡ e
symbol_restored [] x n h k = absurd (omega arith)
symbol_restored (m ∷ e) x zero h k = absurd (omega arith)
symbol_restored (m ∷ e) zero (suc n) h k =
    let same : 0 + 1 ≡ m = omega arith in
    ap₂ (λ (k : ℕ) (f : List ℕ). k ∷ f) same (plus_nothing e n (omega arith))
symbol_restored (m ∷ e) (suc x) (suc n) h k =
    let same : m + 0 ≡ m = omega arith in
    ap₂ (λ (k : ℕ) (f : List ℕ). k ∷ f) same (symbol_restored e x n (omega arith) k)

times_one : (c : ℤ) → c *ℤ pos 1 ≡ c
times_one c = omega (arith, ints)

restored : (x : ℕ) (t : Monomial) → length t.powers ≡ 32 → exponent_of x t ≡ 1
    → monomial (t.coefficient *ℤ pos 1) (powers_of_product (set t.powers x 0) (set no_powers x 1)) ≡ t
restored x t h k = ap₂ monomial (times_one t.coefficient) (symbol_restored t.powers x 32 h k)

-- slope times the symbol, plus base
split_one : (x : ℕ) (t : Monomial) (ts slope base : List Monomial) → IsTerm t → exponent_of x t ≡ 1
    → AreSame ts (sum_of (product_of slope (symbol_of x)) base)
    → AreSame (t ∷ ts) (sum_of (product_of (monomial t.coefficient (set t.powers x 0) ∷ slope) (symbol_of x)) base)
split_one x t ts slope base h is same =
    subst (λ u. AreSame (t ∷ ts) (u ∷ (product_of slope (symbol_of x) ++ base))) (sym (restored x t h.places is))
    (record { at = λ e. ap (λ z. (if bytes_eq t.powers e then t.coefficient else pos 0) +ℤ z) (same.at e) })

split_none : (x : ℕ) (t : Monomial) (ts slope base : List Monomial) → exponent_of x t ≡ 0
    → AreSame ts (sum_of (product_of slope (symbol_of x)) base)
    → AreSame (t ∷ ts) (sum_of (product_of slope (symbol_of x)) (monomial t.coefficient (set t.powers x 0) ∷ base))
split_none x t ts slope base is same =
    let front : List Monomial = product_of slope (symbol_of x) in
    subst (λ u. AreSame (t ∷ ts) (front ++ u ∷ base)) (ap (monomial t.coefficient) (sym (set_nothing t.powers x is)))
    (record {
      at = λ e.
          let left = coefficient_at-append front (t ∷ base) e in
          let right = coefficient_at-append front base e in
          let rest = same.at e in
          omega (arith, ints, left, right, rest);
    })

split_same : (x : ℕ) (ts : List Monomial) → IsPolynomial ts → degree_in x ts ≤ 1
    → AreSame ts (sum_of (product_of (part_of x 1 ts) (symbol_of x)) (part_of x 0 ts))
split_same x [] h k = record { at = λ e. refl }
split_same x (t ∷ ts) h k =
    let rest = split_same x ts h.2 (omega (arith, k)) in
    elim (cases_Bool (exponent_of x t == 1)) [
      | inl one ↦
          let other : (exponent_of x t == 0) ≡ false = grind arith in
          subst₂ (λ a b. AreSame (t ∷ ts) (sum_of (product_of a (symbol_of x)) b)) (sym (part_taken x 1 t ts one)) (sym (part_left x 0 t ts other))
          (split_one x t ts (part_of x 1 ts) (part_of x 0 ts) h.0 (eq_means _ _ one) rest)
      | inr other ↦
          let none : (exponent_of x t == 0) ≡ true = grind arith in
          subst₂ (λ a b. AreSame (t ∷ ts) (sum_of (product_of a (symbol_of x)) b)) (sym (part_left x 1 t ts other)) (sym (part_taken x 0 t ts none))
          (split_none x t ts (part_of x 1 ts) (part_of x 0 ts) (eq_means _ _ none) rest)
    ]

pub is_split : (x : ℕ) (ts a b : List Monomial) → IsKept ts → IsLinearIn x ts → a ≡ part_of x 1 ts → b ≡ part_of x 0 ts → IsSplit x ts a b
is_split x ts a b h linear is_a is_b =
    subst₂ (IsSplit x ts) (sym is_a) (sym is_b) (record {
      slope_free = part_free x 1 ts;
      base_free = part_free x 0 ts;
      same = split_same x ts h.ordered linear;
    })
