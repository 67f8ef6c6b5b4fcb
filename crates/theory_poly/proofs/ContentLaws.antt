-- The content of a polynomial, and the polynomial divided by it.
use Rattle.std.proofs.Common.{◌≡◌, ◌≢◌, ℕ, zero, suc, ◌+◌, ◌*◌, ◌/◌, ◌<◌, ◌≤◌, ℤ, pos, neg_ℤ, ◌*ℤ◌, ◌<ℤ◌, ◌≤ℤ◌, List, [], ◌∷◌, ◌++◌, length, get_or, take, drop, set, max, refl, sym, ap, ap₂, ◌∙◌, subst, arith, inl, inr, unsigned_abs}
use Rattle.std.specs.Prelude.{if◌then◌else◌}
use Rattle.std.specs.Int.{IsGcd}
use Rattle.std.specs.Str.{bytes_eq}
use Prim.Native.Nat.{◌∣◌}
use Rattle.std.proofs.Math.Nat.{dvd-zero, eq-zero_of_zero-dvd, dvd_trans, div-mul_cancel, le_of_dvd, mul-le-mul_right}
use Rattle.std.proofs.lemmas.Bool.{cases_Bool}
use Rattle.std.proofs.lemmas.Int.{ints, unsigned_abs-mul}
use Rattle.std.proofs.lemmas.List.{take_more, take_more_set, take_all, drop_more, drop_all, drop-drop, drop-set-lt, append-nil, map-append, length-map}
use Rattle.std.proofs.lemmas.Slice.Eq.{bytes_eq-Decides}
use Rattle.theory_polynomial.specs.Polynomial.{Monomial, monomial, coefficient_at, AreSame, PrecedesFirst, IsPolynomial, IsWithinLimits, IsContent, IsPrimitiveOf, DividesAll, scaled, height_of, greatest_of, greatest_exponent_of}
use Rattle.theory_polynomial.proofs.CoefficientLaws.{same_itself}
use Rattle.theory_polynomial.proofs.FixedOrder.{coefficient_before, coefficient_first, none_of_zero}
use Rattle.theory_meaning.specs.Limits.{bound}
use Rattle.theory_poly.specs.Kept.{IsKept, EachDivided, IsGreatestDivisor, IsGreatestWith, IsPrimitiveForm}

-- no coefficient is 0
pub nonzero_at : (ts : List Monomial) (i : ℕ) (d : Monomial) → i < length ts → IsPolynomial ts → 0 < unsigned_abs (get_or ts i d).coefficient
nonzero_at [] i d h k = absurd (omega arith)
nonzero_at (t ∷ ts) zero d h k = let some = k.0.nonzero in grind (arith, ints, some)
nonzero_at (t ∷ ts) (suc i) d h k = nonzero_at ts i d (omega arith) k.2

-- each of the first is divided, and one more
pub each-push : (d : ℕ) (ts : List Monomial) (t : Monomial) → EachDivided d ts → d ∣ unsigned_abs t.coefficient → EachDivided d (ts ++ t ∷ [])
each-push d [] t h k = (k, tt)
each-push d (u ∷ ts) t h k = (h.0, each-push d ts t h.1 k)

pub each-pop : (d : ℕ) (ts : List Monomial) (t : Monomial) → EachDivided d (ts ++ t ∷ []) → EachDivided d ts × (d ∣ unsigned_abs t.coefficient)
each-pop d [] t h = (tt, h.0)
each-pop d (u ∷ ts) t h = let r = each-pop d ts t h.1 in ((h.0, r.0), r.1)

pub each_weaker : (d g : ℕ) (ts : List Monomial) → d ∣ g → EachDivided g ts → EachDivided d ts
each_weaker d g [] h k = tt
each_weaker d g (t ∷ ts) h k = (dvd_trans d h k.0, each_weaker d g ts h k.1)

pub each_at : (g : ℕ) (ts : List Monomial) (i : ℕ) (d : Monomial) → i < length ts → EachDivided g ts → g ∣ unsigned_abs (get_or ts i d).coefficient
each_at g [] i d h k = absurd (omega arith)
each_at g (t ∷ ts) zero d h k = k.0
each_at g (t ∷ ts) (suc i) d h k = each_at g ts i d (omega arith) k.1

-- the greatest divisor of one term more
pub divisor_more : (ts : List Monomial) (i : ℕ) (d : Monomial) (g r : ℕ) → i < length ts → IsGreatestDivisor (take i ts) g
    → IsGcd g (unsigned_abs (get_or ts i d).coefficient) r → IsGreatestDivisor (take (i + 1) ts) r
divisor_more ts i d g r h k gcd =
    subst (λ z. IsGreatestDivisor z r) (sym (take_more ts i d h)) (record {
      divides = each-push r (take i ts) (get_or ts i d) (each_weaker r g (take i ts) gcd.0 k.divides) gcd.1;
      greatest = λ e all. let both = each-pop e (take i ts) (get_or ts i d) all in gcd.2 e (k.greatest e both.0) both.1;
    })

pub divisor_of_none : (ts : List Monomial) → IsGreatestDivisor (take 0 ts) 0
divisor_of_none ts = record { divides = tt; greatest = λ d all. dvd-zero d }

pub divisor_all : (ts : List Monomial) (i g : ℕ) → length ts ≤ i → IsGreatestDivisor (take i ts) g → IsGreatestDivisor ts g
divisor_all ts i g h k = subst (λ z. IsGreatestDivisor z g) (take_all i ts h) k

-- the coefficients of a polynomial are those of its terms, and 0 elsewhere
all_from_each : (d : ℕ) (ts : List Monomial) → IsPolynomial ts → EachDivided d ts → DividesAll d ts
all_from_each d [] h k e = dvd-zero d
all_from_each d (t ∷ ts) h k e =
    elim (cases_Bool (bytes_eq t.powers e)) [
      | inl same ↦ let is : t.powers ≡ e = (bytes_eq-Decides t.powers e).0 same in
          subst (λ x. d ∣ unsigned_abs (coefficient_at (t ∷ ts) x)) is
          (subst (λ c. d ∣ unsigned_abs c) (sym (coefficient_first t ts h)) k.0)
      | inr apart ↦
          let none : (if bytes_eq t.powers e then t.coefficient else pos 0) ≡ pos 0 = ap (λ b. if b then t.coefficient else pos 0) apart in
          let rest : coefficient_at (t ∷ ts) e ≡ coefficient_at ts e = omega (arith, ints, none) in
          subst (λ c. d ∣ unsigned_abs c) (sym rest) (all_from_each d ts h.2 k.1 e)
    ]

rest_divided : (d : ℕ) (t : Monomial) (ts : List Monomial) → IsPolynomial (t ∷ ts) → DividesAll d (t ∷ ts) → DividesAll d ts
rest_divided d t ts h k e =
    elim (cases_Bool (bytes_eq t.powers e)) [
      | inl same ↦ let is : t.powers ≡ e = (bytes_eq-Decides t.powers e).0 same in
          subst (λ x. d ∣ unsigned_abs (coefficient_at ts x)) is
          (subst (λ c. d ∣ unsigned_abs c) (sym (coefficient_before t.powers ts h.2 h.1)) (dvd-zero d))
      | inr apart ↦
          let none : (if bytes_eq t.powers e then t.coefficient else pos 0) ≡ pos 0 = ap (λ b. if b then t.coefficient else pos 0) apart in
          let rest : coefficient_at (t ∷ ts) e ≡ coefficient_at ts e = omega (arith, ints, none) in
          subst (λ c. d ∣ unsigned_abs c) rest (k e)
    ]

pub each_from_all : (d : ℕ) (ts : List Monomial) → IsPolynomial ts → DividesAll d ts → EachDivided d ts
each_from_all d [] h k = tt
each_from_all d (t ∷ ts) h k =
    (subst (λ c. d ∣ unsigned_abs c) (coefficient_first t ts h) (k t.powers), each_from_all d ts h.2 (rest_divided d t ts h k))

-- the greatest divisor is the content where it isn't 0
pub content_of_none : (ts : List Monomial) (g : ℕ) → IsPolynomial ts → IsGreatestDivisor ts g → g ≡ 0 → IsContent ts 1
content_of_none [] g h k is = record {
  positive = omega arith;
  divides = λ e. dvd-zero 1;
  greatest = λ some. absurd (some (same_itself []));
  zero = λ none. refl;
}
content_of_none (t ∷ ts) g h k is =
    absurd (let none = eq-zero_of_zero-dvd (subst (λ x. x ∣ unsigned_abs t.coefficient) is k.divides.0) in
    let some = h.0.nonzero in grind (arith, ints, none, some))

pub content_of_some : (ts : List Monomial) (g : ℕ) → IsPolynomial ts → IsGreatestDivisor ts g → g ≢ 0 → IsContent ts g
content_of_some ts g h k some = record {
  positive = omega arith;
  divides = all_from_each g ts h k.divides;
  greatest = λ _ d all. k.greatest d (each_from_all d ts h all);
  zero = λ none. absurd (let is = none_of_zero ts h none in
      let past : suc g ∣ g = k.greatest (suc g) (subst (EachDivided (suc g)) (sym is) tt) in
      let positive : 0 < g = omega arith in
      let small = le_of_dvd positive past in omega (arith, small));
}

-- the first coefficient isn't 0
pub first_is_some : (ts : List Monomial) (d : Monomial) → ts ≢ [] → IsPolynomial ts → 0 < unsigned_abs (get_or ts 0 d).coefficient
first_is_some [] d some h = absurd (some refl)
first_is_some (t ∷ ts) d some h = nonzero_at (t ∷ ts) 0 d (omega arith) h

-- the greatest divisor of the first coefficient and all others is the content
pub content_with_first : (ts : List Monomial) (d : Monomial) (g : ℕ) → ts ≢ [] → IsKept ts → 0 < g
    → IsGreatestWith (unsigned_abs (get_or ts 0 d).coefficient) ts g → IsContent ts g
content_with_first [] d g some h positive k = absurd (some refl)
content_with_first (t ∷ ts) d g some h positive k =
    content_of_some (t ∷ ts) g h.ordered (record { divides = k.divides; greatest = λ e all. k.greatest e all.0 all }) (λ none. omega (arith, positive, none))

-- it is within the bound
pub first_is_small : (ts : List Monomial) (d : Monomial) (g : ℕ) → ts ≢ [] → IsKept ts
    → IsGreatestWith (unsigned_abs (get_or ts 0 d).coefficient) ts g → g ≤ bound
first_is_small [] d g some h k = absurd (some refl)
first_is_small (t ∷ ts) d g some h k =
    let least = le_of_dvd (nonzero_at (t ∷ ts) 0 d (omega arith) h.ordered) k.first in
    let most = h.within.coefficients in omega (arith, least, most)

-- an exact quotient, with its sign
times_opposite : (a b : ℕ) → pos a *ℤ neg_ℤ (pos b) ≡ neg_ℤ (pos (a * b))
times_opposite a zero = omega (arith, ints)
times_opposite a (suc b) = refl

pub exact_quotient : (c g : ℕ) → g ∣ c → g * (c / g) ≡ c
exact_quotient c g h = let e = div-mul_cancel g h in omega (arith, e)

pub quotient_of_positive : (c : ℤ) (g m : ℕ) → pos 0 ≤ℤ c → g ∣ unsigned_abs c → m ≡ unsigned_abs c → pos g *ℤ pos (m / g) ≡ c
quotient_of_positive c g m low h is =
    ap pos (ap (λ n. g * (n / g)) is ∙ exact_quotient (unsigned_abs c) g h) ∙ (let e : pos (unsigned_abs c) ≡ c = omega (arith, ints) in e)

pub quotient_of_negative : (c : ℤ) (g m : ℕ) → c <ℤ pos 0 → g ∣ unsigned_abs c → m ≡ unsigned_abs c → pos g *ℤ neg_ℤ (pos (m / g)) ≡ c
quotient_of_negative c g m low h is =
    times_opposite g (m / g) ∙ ap (λ n. neg_ℤ (pos n)) (ap (λ n. g * (n / g)) is ∙ exact_quotient (unsigned_abs c) g h)
    ∙ (let e : neg_ℤ (pos (unsigned_abs c)) ≡ c = omega (arith, ints) in e)

-- what has a multiple in the fixed order is in it
first_of_scaled : (n : ℤ) (e : List ℕ) (ts : List Monomial) → PrecedesFirst e (scaled n ts) → PrecedesFirst e ts
first_of_scaled n e [] h = tt
first_of_scaled n e (t ∷ ts) h = h

nothing_more : (n : ℤ) → n *ℤ pos 0 ≡ pos 0
nothing_more n = omega (arith, ints)

factor_is_not_zero : (n c : ℤ) → n *ℤ c ≢ pos 0 → c ≢ pos 0
factor_is_not_zero n c h e = h (ap (λ z. n *ℤ z) e ∙ nothing_more n)

pub ordered_of_scaled : (n : ℤ) (ts : List Monomial) → IsPolynomial (scaled n ts) → IsPolynomial ts
ordered_of_scaled n [] h = tt
ordered_of_scaled n (t ∷ ts) h =
    (record { nonzero = factor_is_not_zero n t.coefficient h.0.nonzero; places = h.0.places }, first_of_scaled n t.powers ts h.1, ordered_of_scaled n ts h.2)

-- and within the limits where the multiple is
height_of_scaled : (g : ℕ) (ts : List Monomial) → 0 < g → height_of ts ≤ height_of (scaled (pos g) ts)
height_of_scaled g [] h = omega arith
height_of_scaled g (t ∷ ts) h =
    let own = unsigned_abs-mul (pos g) t.coefficient in
    let rest = height_of_scaled g ts h in
    let more : 1 * unsigned_abs t.coefficient ≤ g * unsigned_abs t.coefficient = mul-le-mul_right (unsigned_abs t.coefficient) h in
    omega (arith, own, rest, more)

exponents_of_scaled : (n : ℤ) (ts : List Monomial) → greatest_exponent_of (scaled n ts) ≡ greatest_exponent_of ts
exponents_of_scaled n [] = refl
exponents_of_scaled n (t ∷ ts) = ap (max (greatest_of t.powers)) (exponents_of_scaled n ts)

-- the primitive form is the primitive polynomial, and within the limits where the polynomial is
pub form_is_primitive : (ts r : List Monomial) → IsPolynomial ts → IsPrimitiveForm ts r → IsPrimitiveOf ts r
form_is_primitive ts r h k = (
  k.content,
  k.is_content,
  ordered_of_scaled (pos k.content) r (subst IsPolynomial (sym k.times) h),
  subst (λ z. AreSame z ts) (sym k.times) (same_itself ts),
)

pub form_is_within : (ts r : List Monomial) → IsPrimitiveForm ts r → IsWithinLimits ts → IsWithinLimits r
form_is_within ts r k h = record {
  terms = let e = ap length (sym k.times) ∙ length-map r (λ t. monomial (pos k.content *ℤ t.coefficient) t.powers) in omega (arith, e, h.terms);
  exponents = let e = ap greatest_exponent_of (sym k.times) ∙ exponents_of_scaled (pos k.content) r in omega (arith, e, h.exponents);
  coefficients = let e = ap height_of k.times in
      let l = height_of_scaled k.content r k.is_content.positive in omega (arith, e, l, h.coefficients);
}

first : List Monomial → Monomial → Monomial
first [] d = d
first (t ∷ ts) d = t

-- a list that was divided in place, one term after the other
pub divided_more : (g : ℕ) (ts us : List Monomial) (i : ℕ) (d : Monomial) (c r : ℤ) → i < length ts → i < length us
    → scaled (pos g) (take i us) ≡ take i ts → drop i us ≡ drop i ts → c ≡ r → pos g *ℤ r ≡ (get_or us i d).coefficient
    → scaled (pos g) (take (i + 1) (set us i (monomial c (get_or us i d).powers))) ≡ take (i + 1) ts
unfolding first
divided_more g ts us i d c r h k so_far left is exact =
    let same : get_or us i d ≡ get_or ts i d = ap (λ r. first r d) (sym (drop_more us i d k) ∙ left ∙ drop_more ts i d h) in
    ap (scaled (pos g)) (take_more_set us i (monomial c (get_or us i d).powers) k)
    ∙ map-append (λ t. monomial (pos g *ℤ t.coefficient) t.powers) (take i us) (monomial c (get_or us i d).powers ∷ [])
    ∙ ap₂ (λ (x : List Monomial) (z : ℤ). x ++ monomial z (get_or us i d).powers ∷ []) so_far (ap (λ z. pos g *ℤ z) is ∙ exact)
    ∙ ap (λ t. take i ts ++ t ∷ []) same
    ∙ sym (take_more ts i d h)

pub left_more : (ts us : List Monomial) (i : ℕ) (t : Monomial) → i < length ts → i < length us → drop i us ≡ drop i ts →
    drop (i + 1) (set us i t) ≡ drop (i + 1) ts
left_more ts us i t h k left =
    let less : i < i + 1 = omega arith in
    drop-set-lt (i + 1) us i t less ∙ sym (drop-drop 1 i us) ∙ ap (drop 1) left ∙ drop-drop 1 i ts

-- what was written back
pub written_back : (new old : List Monomial) (n : ℕ) → length new ≡ length old → n ≡ length old → take n (new ++ drop (length new) old) ≡ new
written_back new old n h k =
    let all : length old ≤ length new = omega (arith, h) in
    let fits : length new ≤ n = omega (arith, h, k) in
    ap (λ r. take n (new ++ r)) (drop_all (length new) old all) ∙ ap (take n) (append-nil new) ∙ take_all n new fits

pub as_many : (n : ℤ) (ts us : List Monomial) → scaled n ts ≡ us → length ts ≡ length us
as_many n ts us h = sym (length-map ts (λ t. monomial (n *ℤ t.coefficient) t.powers)) ∙ ap length h

pub kept_divided : (g : ℕ) (ts us : List Monomial) → 0 < g → scaled (pos g) ts ≡ us → IsKept us → IsKept ts
kept_divided g ts us some h kept = record {
  ordered = ordered_of_scaled (pos g) ts (subst IsPolynomial (sym h) kept.ordered);
  within = record {
    terms = let e = as_many (pos g) ts us h in omega (arith, e, kept.within.terms);
    exponents = let e = sym (exponents_of_scaled (pos g) ts) ∙ ap greatest_exponent_of h in omega (arith, e, kept.within.exponents);
    coefficients = let e = ap height_of h in let l = height_of_scaled g ts some in omega (arith, e, l, kept.within.coefficients);
  };
}

pub same_at : (ts us : List Monomial) (i : ℕ) (d : Monomial) → i < length ts → i < length us → drop i us ≡ drop i ts → get_or us i d ≡ get_or ts i d
unfolding first
same_at ts us i d h k left = ap (λ r. first r d) (sym (drop_more us i d k) ∙ left ∙ drop_more ts i d h)

pub quotient_small : (g : ℕ) (q c : ℤ) → 0 < g → pos g *ℤ q ≡ c → unsigned_abs q ≤ unsigned_abs c
quotient_small g q c some h =
    let size = sym (unsigned_abs-mul (pos g) q) ∙ ap unsigned_abs h in
    let more : 1 * unsigned_abs q ≤ g * unsigned_abs q = mul-le-mul_right (unsigned_abs q) some in
    omega (arith, size, more)
