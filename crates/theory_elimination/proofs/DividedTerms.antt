-- Each polynomial has a content and a quotient by it; each sum of terms has a primitive polynomial, and each polynomial with a term a canonical one.
-- Source: textbook, Euclid's algorithm.
use Rattle.std.proofs.Common.{◌≡◌, ◌≢◌, ℕ, zero, suc, ◌+◌, ◌-◌, ◌*◌, ◌/◌, ◌≤◌, length, ℤ, pos, negsuc, neg_ℤ, ◌*ℤ◌, Bool, true, false, List, [], ◌∷◌, refl, sym, ap, ap₂, ◌∙◌, subst, arith, inl, inr, unsigned_abs}
use Rattle.std.specs.Prelude.{if◌then◌else◌}
use Rattle.std.specs.Int.{IsGcd}
use Rattle.std.specs.Str.{bytes_eq}
use Prim.Native.Nat.{◌∣◌}
use Rattle.std.proofs.Math.Nat.{dvd-zero, eq-zero_of_zero-dvd, dvd_trans, div-mul_cancel}
use Rattle.std.proofs.lemmas.Bool.{cases_Bool, cases_lt}
use Rattle.std.proofs.lemmas.Int.{ints}
use Rattle.std.proofs.Math.IntN.{*ℤ_comm}
use Rattle.std.proofs.lemmas.Nat.Gcd.{IsGcd-from_zero, IsGcd-from_sub, IsGcd-swap}
use Rattle.std.proofs.lemmas.Slice.Eq.{bytes_eq-Decides}
use Rattle.theory_meaning.proofs.WholeLaws.{neg-times}
use Rattle.theory_polynomial.specs.Polynomial.{Monomial, monomial, coefficient_at, AreSame, PrecedesFirst, IsPolynomial, IsContent, IsPrimitiveOf, IsCanonicalOf, HasPositiveFirst, DividesAll, scaled}
use Rattle.theory_polynomial.proofs.CoefficientLaws.{coefficient_at-scaled, same_itself, times_times}
use Rattle.theory_polynomial.proofs.FixedOrder.{coefficient_before, coefficient_first, none_of_zero}
use Rattle.theory_polynomial.proofs.PrimitiveLaws.{primitive_of_same, content_is_one, content_of_turned_back}
use Rattle.theory_elimination.proofs.SummedTerms.{HasPolynomial}

-- two numbers have a greatest common divisor
record HasGcd (a b : ℕ) : Type 0 where
  divisor : ℕ
  is : IsGcd a b divisor

gcd_within : (n a b : ℕ) → a + b ≤ n → HasGcd a b
gcd_within n a zero h = record { divisor = a; is = IsGcd-from_zero a zero refl }
gcd_within n zero (suc b) h = record { divisor = suc b; is = IsGcd-swap (suc b) zero (suc b) (IsGcd-from_zero (suc b) zero refl) }
gcd_within zero (suc a) (suc b) h = absurd (omega arith)
gcd_within (suc n) (suc a) (suc b) h =
    elim (cases_lt (suc a) (suc b)) [
      | inl less ↦
          let rest = gcd_within n (suc b - suc a) (suc a) (omega arith) in
          record { divisor = rest.divisor; is = IsGcd-swap (suc b) (suc a) rest.divisor (IsGcd-from_sub (suc b) (suc a) rest.divisor (omega arith) rest.is) }
      | inr more ↦
          let rest = gcd_within n (suc a - suc b) (suc b) (omega arith) in
          record { divisor = rest.divisor; is = IsGcd-from_sub (suc a) (suc b) rest.divisor more rest.is }
    ]

has_gcd : (a b : ℕ) → HasGcd a b
has_gcd a b = let whole : a + b ≤ a + b = omega arith in gcd_within (a + b) a b whole

-- the number divides the coefficient of each term
abbrev pub EachDivided : ℕ → List Monomial → Type 0
EachDivided d [] = Unit {0}
EachDivided d (t ∷ ts) = (d ∣ unsigned_abs t.coefficient) × EachDivided d ts

each_weaker : (d g : ℕ) (ts : List Monomial) → d ∣ g → EachDivided g ts → EachDivided d ts
each_weaker d g [] h k = tt
each_weaker d g (t ∷ ts) h k = (dvd_trans d h k.0, each_weaker d g ts h k.1)

-- terms have a greatest divisor
record HasDivisor (ts : List Monomial) : Type 0 where
  divisor : ℕ
  divides : EachDivided divisor ts
  greatest : (d : ℕ) → EachDivided d ts → d ∣ divisor

has_divisor : (ts : List Monomial) → HasDivisor ts
has_divisor [] = record { divisor = 0; divides = tt; greatest = λ d all. dvd-zero d }
has_divisor (t ∷ ts) =
    let rest = has_divisor ts in
    let gcd = has_gcd (unsigned_abs t.coefficient) rest.divisor in
    record {
      divisor = gcd.divisor;
      divides = (gcd.is.0, each_weaker gcd.divisor rest.divisor ts gcd.is.1 rest.divides);
      greatest = λ d all. gcd.is.2 d all.0 (rest.greatest d all.1);
    }

-- the coefficients of a polynomial are those of its terms, and 0 elsewhere
rest_is : (t : Monomial) (ts : List Monomial) (e : List ℕ) → bytes_eq t.powers e ≡ false → coefficient_at (t ∷ ts) e ≡ coefficient_at ts e
rest_is t ts e apart =
    let none : (if bytes_eq t.powers e then t.coefficient else pos 0) ≡ pos 0 = ap (λ b. if b then t.coefficient else pos 0) apart in
    omega (arith, ints, none)

pub all_from_each : (d : ℕ) (ts : List Monomial) → IsPolynomial ts → EachDivided d ts → DividesAll d ts
all_from_each d [] h k e = dvd-zero d
all_from_each d (t ∷ ts) h k e =
    elim (cases_Bool (bytes_eq t.powers e)) [
      | inl same ↦ let is : t.powers ≡ e = (bytes_eq-Decides t.powers e).0 same in
          subst (λ x. d ∣ unsigned_abs (coefficient_at (t ∷ ts) x)) is
          (subst (λ c. d ∣ unsigned_abs c) (sym (coefficient_first t ts h)) k.0)
      | inr apart ↦ subst (λ c. d ∣ unsigned_abs c) (sym (rest_is t ts e apart)) (all_from_each d ts h.2 k.1 e)
    ]

rest_divided : (d : ℕ) (t : Monomial) (ts : List Monomial) → IsPolynomial (t ∷ ts) → DividesAll d (t ∷ ts) → DividesAll d ts
rest_divided d t ts h k e =
    elim (cases_Bool (bytes_eq t.powers e)) [
      | inl same ↦ let is : t.powers ≡ e = (bytes_eq-Decides t.powers e).0 same in
          subst (λ x. d ∣ unsigned_abs (coefficient_at ts x)) is
          (subst (λ c. d ∣ unsigned_abs c) (sym (coefficient_before t.powers ts h.2 h.1)) (dvd-zero d))
      | inr apart ↦ subst (λ c. d ∣ unsigned_abs c) (rest_is t ts e apart) (k e)
    ]

pub each_from_all : (d : ℕ) (ts : List Monomial) → IsPolynomial ts → DividesAll d ts → EachDivided d ts
each_from_all d [] h k = tt
each_from_all d (t ∷ ts) h k =
    (subst (λ c. d ∣ unsigned_abs c) (coefficient_first t ts h) (k t.powers), each_from_all d ts h.2 (rest_divided d t ts h k))

-- a polynomial with its content
record HasContent (ts : List Monomial) : Type 0 where
  content : ℕ
  divides : EachDivided content ts
  is : IsContent ts content

some_divisor : (t : Monomial) (ts : List Monomial) (g : ℕ) → IsPolynomial (t ∷ ts) → EachDivided g (t ∷ ts) → g ≢ 0
some_divisor t ts g h k is =
    let none = eq-zero_of_zero-dvd (subst (λ x. x ∣ unsigned_abs t.coefficient) is k.0) in
    let some = h.0.nonzero in grind (arith, ints, none, some)

has_content : (ts : List Monomial) → IsPolynomial ts → HasContent ts
has_content [] h = record {
  content = 1;
  divides = tt;
  is = record { positive = omega arith; divides = λ e. dvd-zero 1; greatest = λ some. absurd (some (same_itself [])); zero = λ none. refl };
}
has_content (t ∷ ts) h =
    let all = has_divisor (t ∷ ts) in
    let some = some_divisor t ts all.divisor h all.divides in
    record {
      content = all.divisor;
      divides = all.divides;
      is = record {
        positive = omega (arith, some);
        divides = all_from_each all.divisor (t ∷ ts) h all.divides;
        greatest = λ _ d each. all.greatest d (each_from_all d (t ∷ ts) h each);
        zero = λ none. absurd (let e = ap length (none_of_zero (t ∷ ts) h none) in omega (arith, e));
      };
    }

-- an exact quotient, with its sign
record HasQuotient (g : ℕ) (c : ℤ) : Type 0 where
  quotient : ℤ
  times : pos g *ℤ quotient ≡ c

times_opposite : (a b : ℕ) → pos a *ℤ neg_ℤ (pos b) ≡ neg_ℤ (pos (a * b))
times_opposite a zero = omega (arith, ints)
times_opposite a (suc b) = refl

exact_quotient : (c g : ℕ) → g ∣ c → g * (c / g) ≡ c
exact_quotient c g h = let e = div-mul_cancel g h in omega (arith, e)

has_quotient : (g : ℕ) (c : ℤ) → g ∣ unsigned_abs c → HasQuotient g c
has_quotient g (pos n) h = record { quotient = pos (n / g); times = ap pos (exact_quotient n g h) }
has_quotient g (negsuc n) h = record {
  quotient = neg_ℤ (pos (suc n / g));
  times = times_opposite g (suc n / g) ∙ ap (λ m. neg_ℤ (pos m)) (exact_quotient (suc n) g h);
}

-- the terms divided, one by one
record HasQuotients (g : ℕ) (ts : List Monomial) : Type 0 where
  terms : List Monomial
  times : scaled (pos g) terms ≡ ts

has_quotients : (g : ℕ) (ts : List Monomial) → EachDivided g ts → HasQuotients g ts
has_quotients g [] h = record { terms = []; times = refl }
has_quotients g (t ∷ ts) h =
    let first = has_quotient g t.coefficient h.0 in
    let rest = has_quotients g ts h.1 in
    record {
      terms = monomial first.quotient t.powers ∷ rest.terms;
      times = ap₂ (λ (c : ℤ) (r : List Monomial). monomial c t.powers ∷ r) first.times rest.times;
    }

-- what has a multiple in the fixed order is in it
first_of_scaled : (n : ℤ) (e : List ℕ) (ts : List Monomial) → PrecedesFirst e (scaled n ts) → PrecedesFirst e ts
first_of_scaled n e [] h = tt
first_of_scaled n e (t ∷ ts) h = h

nothing_more : (n : ℤ) → n *ℤ pos 0 ≡ pos 0
nothing_more n = omega (arith, ints)

factor_is_not_zero : (n c : ℤ) → n *ℤ c ≢ pos 0 → c ≢ pos 0
factor_is_not_zero n c h e = h (ap (λ z. n *ℤ z) e ∙ nothing_more n)

ordered_of_scaled : (n : ℤ) (ts : List Monomial) → IsPolynomial (scaled n ts) → IsPolynomial ts
ordered_of_scaled n [] h = tt
ordered_of_scaled n (t ∷ ts) h =
    (record { nonzero = factor_is_not_zero n t.coefficient h.0.nonzero; places = h.0.places }, first_of_scaled n t.powers ts h.1, ordered_of_scaled n ts h.2)

-- a polynomial divided by its content
record HasDivided (ts : List Monomial) : Type 0 where
  content : ℕ
  is_content : IsContent ts content
  terms : List Monomial
  ordered : IsPolynomial terms
  times : scaled (pos content) terms ≡ ts

has_divided : (ts : List Monomial) → IsPolynomial ts → HasDivided ts
has_divided ts h =
    let all = has_content ts h in
    let parts = has_quotients all.content ts all.divides in
    record {
      content = all.content;
      is_content = all.is;
      terms = parts.terms;
      ordered = ordered_of_scaled (pos all.content) parts.terms (subst IsPolynomial (sym parts.times) h);
      times = parts.times;
    }

-- the primitive polynomial of a sum of terms
pub record HasPrimitive (ts : List Monomial) : Type 0 where
  pub poly : List Monomial
  pub is : IsPrimitiveOf ts poly

pub has_primitive : (ts : List Monomial) → HasPolynomial ts → HasPrimitive ts
has_primitive ts h =
    let d = has_divided h.poly h.is.ordered in
    let own : IsPrimitiveOf h.poly d.terms =
    (d.content, d.is_content, d.ordered, subst (λ z. AreSame z h.poly) (sym d.times) (same_itself h.poly)) in
    record { poly = d.terms; is = primitive_of_same h.poly ts d.terms h.is.same own }

-- a turned polynomial
turned_is_not_zero : (c : ℤ) → c ≢ pos 0 → negsuc 0 *ℤ c ≢ pos 0
turned_is_not_zero c h e = h (omega (arith, ints, e))

turned_first : (e : List ℕ) (ts : List Monomial) → PrecedesFirst e ts → PrecedesFirst e (scaled (negsuc 0) ts)
turned_first e [] h = h
turned_first e (t ∷ ts) h = h

turned_ordered : (ts : List Monomial) → IsPolynomial ts → IsPolynomial (scaled (negsuc 0) ts)
turned_ordered [] h = tt
turned_ordered (t ∷ ts) h = (
  record { nonzero = turned_is_not_zero t.coefficient h.0.nonzero; places = h.0.places },
  turned_first t.powers ts h.1,
  turned_ordered ts h.2,
)

times_turned : (g : ℕ) (a : ℤ) → pos g *ℤ (negsuc 0 *ℤ a) ≡ negsuc 0 *ℤ (pos g *ℤ a)
times_turned g a = times_times (pos g) (negsuc 0) a ∙ ap (λ z. z *ℤ a) (*ℤ_comm (pos g) (negsuc 0)) ∙ sym (times_times (negsuc 0) (pos g) a)

twice_turned : (g : ℕ) (a : ℤ) → pos g *ℤ a ≡ neg_ℤ (pos g) *ℤ (negsuc 0 *ℤ a)
twice_turned g a =
    let e = neg-times (pos g) (negsuc 0 *ℤ a) in
    let f = times_turned g a in omega (arith, ints, e, f)

-- the canonical polynomial of one with a term
pub record HasCanonical (ts : List Monomial) : Type 0 where
  pub turned : Bool
  pub poly : List Monomial
  pub is : IsCanonicalOf ts turned poly

-- the quotient as it is, where its first coefficient is above 0
kept_canonical : (ts r : List Monomial) (g : ℕ) → IsContent ts g → IsPolynomial r → AreSame (scaled (pos g) r) ts
    → HasPositiveFirst r → IsCanonicalOf ts false r
kept_canonical ts r g h ordered same first = record {
  canonical = record { ordered = ordered; primitive = content_is_one ts r g h same; first = first };
  content = g;
  is_content = h;
  same = record { at = λ e. sym (same.at e) };
}

-- and else the turned one
turned_canonical : (ts r : List Monomial) (g : ℕ) → IsContent ts g → IsPolynomial r → AreSame (scaled (pos g) r) ts → HasPositiveFirst (scaled (negsuc 0) r)
    → IsCanonicalOf ts true (scaled (negsuc 0) r)
turned_canonical ts r g h ordered same first = record {
  canonical = record {
    ordered = turned_ordered r ordered;
    primitive = content_of_turned_back r 1 (content_is_one ts r g h same);
    first = first;
  };
  content = g;
  is_content = h;
  same = record {
    at = λ e.
        sym (same.at e) ∙ coefficient_at-scaled (pos g) r e ∙ twice_turned g (coefficient_at r e)
        ∙ sym (coefficient_at-scaled (neg_ℤ (pos g)) (scaled (negsuc 0) r) e ∙ ap (λ z. neg_ℤ (pos g) *ℤ z) (coefficient_at-scaled (negsuc 0) r e));
  };
}

turned_negative : (n : ℕ) → negsuc 0 *ℤ negsuc n ≡ pos (n + 1)
turned_negative n = omega (arith, ints)

above : (n : ℕ) → pos (suc n) ≡ pos (n + 1)
above n = omega (arith, ints)

by_first : (ts us : List Monomial) (g : ℕ) (c : ℤ) (e : List ℕ) → IsContent ts g → IsPolynomial (monomial c e ∷ us)
    → AreSame (scaled (pos g) (monomial c e ∷ us)) ts → HasCanonical ts
by_first ts us g (pos zero) e h ordered same = absurd (ordered.0.nonzero refl)
by_first ts us g (pos (suc n)) e h ordered same =
    record { turned = false; poly = monomial (pos (suc n)) e ∷ us; is = kept_canonical ts (monomial (pos (suc n)) e ∷ us) g h ordered same (n, above n) }
by_first ts us g (negsuc n) e h ordered same = record {
  turned = true;
  poly = scaled (negsuc 0) (monomial (negsuc n) e ∷ us);
  is = turned_canonical ts (monomial (negsuc n) e ∷ us) g h ordered same (n, turned_negative n);
}

by_terms : (ts r : List Monomial) (g : ℕ) → ts ≢ [] → IsContent ts g → IsPolynomial r → scaled (pos g) r ≡ ts → HasCanonical ts
by_terms ts [] g some h ordered times = absurd (some (sym times))
by_terms ts (t ∷ us) g some h ordered times =
    by_first ts us g t.coefficient t.powers h ordered (subst (λ z. AreSame z ts) (sym times) (same_itself ts))

pub has_canonical : (ts : List Monomial) → IsPolynomial ts → ts ≢ [] → HasCanonical ts
has_canonical ts h some = let d = has_divided ts h in by_terms ts d.terms d.content some d.is_content d.ordered d.times
