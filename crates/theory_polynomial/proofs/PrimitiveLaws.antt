-- A polynomial divided by its content: there is one, and it has the same sign everywhere.
use Rattle.std.proofs.Common.{◌≡◌, ℕ, ◌+◌, ◌-◌, ◌*◌, ◌<◌, mul-one, ℤ, pos, negsuc, ◌*ℤ◌, true, List, [], ◌∷◌, refl, sym, ap, ◌∙◌, subst, arith, unsigned_abs}
use Prim.Native.Nat.{◌∣◌}
use Rattle.std.specs.Ordering.{int_eq}
use Rattle.std.proofs.Math.Nat.{dvd_antisymm, mul-dvd-mul_left, dvd_of_mul-dvd-mul_left, one-dvd as one_dvd}
use Rattle.std.proofs.Math.IntN.{*ℤ_comm}
use Rattle.std.proofs.lemmas.Int.{ints, unsigned_abs-mul}
use Rattle.theory_meaning.proofs.WholeLaws.{int_eq_scales}
use Rattle.theory_polynomial.specs.Polynomial.{Monomial, coefficient_at, AreSame, IsPolynomial, IsPolynomialOf, IsContent, IsPrimitiveOf, DividesAll, scaled}
use Rattle.theory_polynomial.specs.PolynomialValue.{HaveSameSign}
use Rattle.theory_polynomial.proofs.CoefficientLaws.{coefficient_at-scaled, scaled_same, same_itself, same_trans, same_turned}
use Rattle.theory_polynomial.proofs.FixedOrder.{polynomial_unique, coefficient_first}
use Rattle.theory_polynomial.proofs.PolynomialValues.{sign_of_multiple, sign_of_divided}

-- the same coefficients have the same divisors, and the same content
pub divides_same : (d : ℕ) (ts us : List Monomial) → AreSame ts us → DividesAll d ts → DividesAll d us
divides_same d ts us h k e = subst (λ c. d ∣ unsigned_abs c) (h.at e) (k e)

pub content_of_same : (ts us : List Monomial) (g : ℕ) → AreSame ts us → IsContent ts g → IsContent us g
content_of_same ts us g h k = record {
  positive = k.positive;
  divides = divides_same g ts us h k.divides;
  greatest = λ some d all. k.greatest (λ none. some (same_trans us ts [] (same_turned ts us h) none)) d (divides_same d us ts (same_turned ts us h) all);
  zero = λ none. k.zero (same_trans ts us [] h none);
}

first_is_not_nothing : (t : Monomial) (ts : List Monomial) → IsPolynomial (t ∷ ts) → ¬ AreSame (t ∷ ts) []
first_is_not_nothing t ts h k = h.0.nonzero (sym (coefficient_first t ts h) ∙ k.at t.powers)

-- a polynomial has one content
pub content_unique : (ts : List Monomial) (g k : ℕ) → IsPolynomial ts → IsContent ts g → IsContent ts k → g ≡ k
content_unique [] g k h a b = a.zero (same_itself []) ∙ sym (b.zero (same_itself []))
content_unique (t ∷ ts) g k h a b =
    let some = first_is_not_nothing t ts h in dvd_antisymm (b.greatest some g a.divides) (a.greatest some k b.divides)

-- a positive factor may be left out
eq_itself : (a : ℤ) → int_eq a a ≡ true
eq_itself a = grind (arith, ints)

eq_means : (a b : ℤ) → int_eq a b ≡ true → a ≡ b
eq_means a b h = grind (arith, ints)

pub without_factor : (g : ℕ) (a b : ℤ) → 0 < g → pos g *ℤ a ≡ pos g *ℤ b → a ≡ b
without_factor g a b h e =
    let is : g ≡ (g - 1) + 1 = omega arith in
    let turned : a *ℤ pos ((g - 1) + 1) ≡ b *ℤ pos ((g - 1) + 1) =
    subst (λ n. a *ℤ pos n ≡ b *ℤ pos n) is (*ℤ_comm a (pos g) ∙ e ∙ *ℤ_comm (pos g) b) in
    eq_means a b (sym (int_eq_scales a b (g - 1)) ∙ ap (λ z. int_eq z (b *ℤ pos ((g - 1) + 1))) turned ∙ eq_itself (b *ℤ pos ((g - 1) + 1)))

pub without_multiple : (g : ℕ) (ts us : List Monomial) → 0 < g → AreSame (scaled (pos g) ts) (scaled (pos g) us) → AreSame ts us
without_multiple g ts us h k = record {
  at = λ e.
      without_factor g (coefficient_at ts e) (coefficient_at us e) h
      (sym (coefficient_at-scaled (pos g) ts e) ∙ k.at e ∙ coefficient_at-scaled (pos g) us e);
}

-- what is left after the division is one polynomial
pub primitive_unique : (ts all r s : List Monomial) → IsPolynomialOf ts all → IsPrimitiveOf ts r → IsPrimitiveOf ts s → r ≡ s
primitive_unique ts all r s h a b =
    let here = same_turned all ts h.same in
    let same_content : b.0 ≡ a.0 = content_unique all b.0 a.0 h.ordered (content_of_same ts all b.0 here b.1) (content_of_same ts all a.0 here a.1) in
    let other : AreSame (scaled (pos a.0) s) ts = subst (λ g. AreSame (scaled (pos g) s) ts) same_content b.3 in
    polynomial_unique r s a.2 b.2
    (without_multiple a.0 r s a.1.positive (same_trans (scaled (pos a.0) r) ts (scaled (pos a.0) s) a.3 (same_turned (scaled (pos a.0) s) ts other)))

-- and the division keeps every sign
pub primitive_has_same_sign : (ts r : List Monomial) → IsPrimitiveOf ts r → HaveSameSign r ts
primitive_has_same_sign ts r h p s =
    let positive : 0 < h.0 = h.1.positive in
    let is : h.0 ≡ (h.0 - 1) + 1 = omega (arith, positive) in
    let multiple : AreSame (scaled (pos ((h.0 - 1) + 1)) r) ts = subst (λ g. AreSame (scaled (pos g) r) ts) is h.3 in
    (sign_of_multiple (h.0 - 1) r ts p s multiple, sign_of_divided (h.0 - 1) r ts p s multiple)

pub primitive_of_same : (ts us r : List Monomial) → AreSame ts us → IsPrimitiveOf ts r → IsPrimitiveOf us r
primitive_of_same ts us r h k = (k.0, content_of_same ts us k.0 h k.1, k.2, same_trans (scaled (pos k.0) r) ts us k.3 h)

-- what is left after the division has content 1
size_of_multiple : (g : ℕ) (ts : List Monomial) (e : List ℕ) → unsigned_abs (coefficient_at (scaled (pos g) ts) e) ≡ g * unsigned_abs (coefficient_at ts e)
size_of_multiple g ts e = ap unsigned_abs (coefficient_at-scaled (pos g) ts e) ∙ unsigned_abs-mul (pos g) (coefficient_at ts e)

pub divides_multiple : (d g : ℕ) (ts : List Monomial) → DividesAll d ts → DividesAll (g * d) (scaled (pos g) ts)
divides_multiple d g ts h e = subst (λ n. g * d ∣ n) (sym (size_of_multiple g ts e)) (mul-dvd-mul_left d g (h e))

nothing_of_multiple : (g : ℕ) (ts : List Monomial) → 0 < g → AreSame (scaled (pos g) ts) [] → AreSame ts []
nothing_of_multiple g ts h k = without_multiple g ts [] h k

pub content_is_one : (ts r : List Monomial) (g : ℕ) → IsContent ts g → AreSame (scaled (pos g) r) ts → IsContent r 1
content_is_one ts r g h same = record {
  positive = omega arith;
  divides = λ e. one_dvd (unsigned_abs (coefficient_at r e));
  greatest = λ some d all.
      let whole : g * d ∣ g = h.greatest (λ none. some (nothing_of_multiple g r h.positive (same_trans (scaled (pos g) r) ts [] same none)))
      (g * d) (divides_same (g * d) (scaled (pos g) r) ts same (divides_multiple d g r all)) in
      dvd_of_mul-dvd-mul_left d h.positive (subst (λ n. g * d ∣ n) (sym (mul-one g)) whole);
  zero = λ none. refl;
}

-- a turned sum of terms has the same content
turned_size : (c : ℤ) → unsigned_abs (negsuc 0 *ℤ c) ≡ unsigned_abs c
turned_size c = grind (arith, ints)

twice_turned : (c : ℤ) → negsuc 0 *ℤ (negsuc 0 *ℤ c) ≡ c
twice_turned c = omega (arith, ints)

turned_divides : (d : ℕ) (ts : List Monomial) → DividesAll d ts → DividesAll d (scaled (negsuc 0) ts)
turned_divides d ts h e =
    subst (λ n. d ∣ n) (sym (ap unsigned_abs (coefficient_at-scaled (negsuc 0) ts e) ∙ turned_size (coefficient_at ts e))) (h e)

turned_back : (ts : List Monomial) → AreSame (scaled (negsuc 0) (scaled (negsuc 0) ts)) ts
turned_back ts = record {
  at = λ e.
      coefficient_at-scaled (negsuc 0) (scaled (negsuc 0) ts) e ∙ ap (λ z. negsuc 0 *ℤ z) (coefficient_at-scaled (negsuc 0) ts e)
      ∙ twice_turned (coefficient_at ts e);
}

turned_nothing : (ts : List Monomial) → AreSame ts [] → AreSame (scaled (negsuc 0) ts) []
turned_nothing ts h = scaled_same (negsuc 0) ts [] h

pub content_of_turned_back : (ts : List Monomial) (g : ℕ) → IsContent ts g → IsContent (scaled (negsuc 0) ts) g
content_of_turned_back ts g h = record {
  positive = h.positive;
  divides = turned_divides g ts h.divides;
  greatest = λ some d all. h.greatest (λ none. some (turned_nothing ts none)) d
      (divides_same d (scaled (negsuc 0) (scaled (negsuc 0) ts)) ts (turned_back ts) (turned_divides d (scaled (negsuc 0) ts) all));
  zero = λ none. h.zero (same_trans ts (scaled (negsuc 0) (scaled (negsuc 0) ts)) []
      (same_turned (scaled (negsuc 0) (scaled (negsuc 0) ts)) ts (turned_back ts)) (turned_nothing (scaled (negsuc 0) ts) none));
}

pub content_of_turned : (ts : List Monomial) (g : ℕ) → IsContent (scaled (negsuc 0) ts) g → IsContent ts g
content_of_turned ts g h =
    content_of_same (scaled (negsuc 0) (scaled (negsuc 0) ts)) ts g (turned_back ts) (content_of_turned_back (scaled (negsuc 0) ts) g h)
