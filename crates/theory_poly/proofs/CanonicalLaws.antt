-- The canonical form of a polynomial, from its signed form.
use Rattle.std.proofs.Common.{◌≡◌, ◌≢◌, ℕ, zero, suc, ◌+◌, ◌<◌, ◌≤◌, ℤ, pos, negsuc, neg_ℤ, ◌*ℤ◌, ◌<ℤ◌, Bool, true, false, List, [], ◌∷◌, length, get_or, set, replicate, max, refl, sym, ap, ap₂, ◌∙◌, subst, arith, w64}
use mir.Val.{to_z, of_z}
use Rattle.std.specs.Prelude.{if◌then◌else◌, int_lt}
use Rattle.std.proofs.lemmas.Int.{ints}
use Rattle.std.proofs.lemmas.List.{length-set}
use Rattle.theory_meaning.proofs.WholeLaws.{neg-times, lt_from_test, le_from_test}
use Rattle.theory_polynomial.specs.Polynomial.{Monomial, monomial, coefficient_at, AreSame, IsPolynomial, IsContent, IsCanonicalOf, HasPositiveFirst, scaled, symbol_of, greatest_of}
use Rattle.theory_polynomial.specs.PolynomialValue.{HaveSameSign}
use Rattle.theory_polynomial.proofs.CoefficientLaws.{coefficient_at-scaled, same_itself, scaled_once}
use Rattle.theory_polynomial.proofs.PrimitiveLaws.{content_is_one, content_of_turned, content_of_same, primitive_has_same_sign}
use Rattle.theory_poly.specs.Kept.{IsKept, IsPrimitiveForm, IsSignedForm}
use Rattle.theory_poly.proofs.HeightLaws.{nothing}
use Rattle.theory_poly.proofs.ProductLaws.{kept_turned}
use Rattle.theory_poly.proofs.ContentLaws.{ordered_of_scaled, form_is_primitive, form_is_within}

-- once the terms are the terms
once : (c : ℤ) → pos 1 *ℤ c ≡ c
once c = omega (arith, ints)

pub scaled_once_is : (ts : List Monomial) → scaled (pos 1) ts ≡ ts
scaled_once_is [] = refl
scaled_once_is (t ∷ ts) = ap₂ (λ (c : ℤ) (r : List Monomial). monomial c t.powers ∷ r) (once t.coefficient) (scaled_once_is ts)

-- turned or not they are kept
unit : Bool → ℤ
unit turned = if turned then negsuc 0 else pos 1

pub kept_signed : (turned : Bool) (ts : List Monomial) → IsKept ts → IsKept (scaled (if turned then negsuc 0 else pos 1) ts)
kept_signed true ts h = kept_turned ts (scaled (negsuc 0) ts) (scaled (negsuc 0) ts) refl refl h
kept_signed false ts h = subst IsKept (sym (scaled_once_is ts)) h

-- the primitive form of the signed terms
pub signed_form_of : (turned : Bool) (ts all x least : List Monomial) → all ≡ scaled (if turned then negsuc 0 else pos 1) ts → x ≡ all → IsPrimitiveForm x least
    → IsSignedForm turned ts least
signed_form_of turned ts all x least is same h =
    let form : IsPrimitiveForm (scaled (if turned then negsuc 0 else pos 1) ts) least = subst (λ z. IsPrimitiveForm z least) (same ∙ is) h in
    record { content = form.content; is_content = form.is_content; times = form.times }

pub kept_form : (turned : Bool) (ts all x least y : List Monomial) → all ≡ scaled (if turned then negsuc 0 else pos 1) ts → x ≡ all →
    IsPrimitiveForm x least → y ≡ least
    → IsKept ts → IsKept y
kept_form turned ts all x least y is same h last kept =
    let signed : IsKept (scaled (if turned then negsuc 0 else pos 1) ts) = kept_signed turned ts kept in
    let form : IsPrimitiveForm (scaled (if turned then negsuc 0 else pos 1) ts) least = subst (λ z. IsPrimitiveForm z least) (same ∙ is) h in
    subst IsKept (sym last) (record {
      ordered = (form_is_primitive (scaled (if turned then negsuc 0 else pos 1) ts) least signed.ordered form).2;
      within = form_is_within (scaled (if turned then negsuc 0 else pos 1) ts) least form signed.within;
    })

-- the sign of the whole goes to the content
back_turned : (g : ℕ) (a b : ℤ) → pos g *ℤ a ≡ negsuc 0 *ℤ b → b ≡ neg_ℤ (pos g) *ℤ a
back_turned g a b h = let e = neg-times (pos g) a in omega (arith, ints, h, e)

back_kept : (g : ℕ) (a b : ℤ) → pos g *ℤ a ≡ pos 1 *ℤ b → b ≡ pos g *ℤ a
back_kept g a b h = omega (arith, ints, h)

same_signed : (turned : Bool) (ts r : List Monomial) (g : ℕ) → AreSame (scaled (pos g) r) (scaled (if turned then negsuc 0 else pos 1) ts)
    → AreSame ts (scaled (if turned then neg_ℤ (pos g) else pos g) r)
same_signed true ts r g h = record {
  at = λ e.
      back_turned g (coefficient_at r e) (coefficient_at ts e)
      (sym (coefficient_at-scaled (pos g) r e) ∙ h.at e ∙ coefficient_at-scaled (negsuc 0) ts e) ∙ sym (coefficient_at-scaled (neg_ℤ (pos g)) r e);
}
same_signed false ts r g h = record {
  at = λ e.
      back_kept g (coefficient_at r e) (coefficient_at ts e)
      (sym (coefficient_at-scaled (pos g) r e) ∙ h.at e ∙ coefficient_at-scaled (pos 1) ts e) ∙ sym (coefficient_at-scaled (pos g) r e);
}

content_signed : (turned : Bool) (ts : List Monomial) (g : ℕ) → IsContent (scaled (if turned then negsuc 0 else pos 1) ts) g → IsContent ts g
content_signed true ts g h = content_of_turned ts g h
content_signed false ts g h = content_of_same (scaled (pos 1) ts) ts g (scaled_once ts) h

-- the first coefficient is above 0
positive_quotient : (g : ℕ) (a b : ℤ) → 0 < g → pos g *ℤ a ≡ b → pos 0 <ℤ b → (n : ℕ) × (a ≡ pos (n + 1))
positive_quotient g (pos zero) b some e h = absurd (omega (arith, ints, e, h))
positive_quotient g (pos (suc n)) b some e h = (n, let is : pos (suc n) ≡ pos (n + 1) = omega (arith, ints) in is)
positive_quotient zero (negsuc n) b some e h = absurd (omega arith)
positive_quotient (suc g) (negsuc n) b some e h = absurd (omega (arith, ints, e, h))

first_coefficient : List Monomial → ℤ
first_coefficient [] = pos 0
first_coefficient (t ∷ ts) = t.coefficient

first_of : {t v : Monomial} {us vs : List Monomial} → v ∷ vs ≡ t ∷ us → v.coefficient ≡ t.coefficient
unfolding first_coefficient
first_of same = ap first_coefficient same

positive_first : (turned : Bool) (ts r : List Monomial) (g : ℕ) → 0 < g → scaled (pos g) r ≡ scaled (if turned then negsuc 0 else pos 1) ts → ts ≢ []
    → ((t : Monomial) (us : List Monomial) → ts ≡ t ∷ us → pos 0 <ℤ ((if turned then negsuc 0 else pos 1) *ℤ t.coefficient)) → HasPositiveFirst r
unfolding first_coefficient
positive_first turned [] r g some times full first = absurd (full refl)
positive_first turned (t ∷ ts) [] g some times full first = absurd (let e = ap length times in omega (arith, e))
positive_first turned (t ∷ ts) (u ∷ r) g some times full first =
    positive_quotient g u.coefficient ((if turned then negsuc 0 else pos 1) *ℤ t.coefficient) some (ap first_coefficient times) (first t ts refl)

-- the sign to turn is that of the first coefficient
above_signed : (turned : Bool) (c : ℤ) → turned ≡ int_lt c (pos 0) → c ≢ pos 0 → pos 0 <ℤ ((if turned then negsuc 0 else pos 1) *ℤ c)
above_signed true c is some = let h = lt_from_test c (pos 0) (sym is) in omega (arith, ints, h)
above_signed false c is some = let h = le_from_test c (pos 0) (sym is) in grind (arith, ints, h, some)

above_first : (turned : Bool) (ts : List Monomial) → IsPolynomial ts → turned ≡ int_lt (get_or ts 0 nothing).coefficient (pos 0)
    → (t : Monomial) (us : List Monomial) → ts ≡ t ∷ us → pos 0 <ℤ ((if turned then negsuc 0 else pos 1) *ℤ t.coefficient)
above_first turned [] h is t us same = absurd (let e = ap length same in omega (arith, e))
above_first turned (v ∷ vs) h is t us same =
    subst (λ c. pos 0 <ℤ ((if turned then negsuc 0 else pos 1) *ℤ c)) (first_of same) (above_signed turned v.coefficient is h.0.nonzero)

-- the signed form is canonical
pub canonical_of_form : (turned : Bool) (ts r : List Monomial) → IsPolynomial ts → ts ≢ [] → turned ≡ int_lt (get_or ts 0 nothing).coefficient (pos 0)
    → IsSignedForm turned ts r → IsPolynomial r → IsCanonicalOf ts turned r
canonical_of_form turned ts r h full is form ordered =
    let signed : List Monomial = scaled (if turned then negsuc 0 else pos 1) ts in
    let same : AreSame (scaled (pos form.content) r) signed = subst (λ z. AreSame z signed) (sym form.times) (same_itself signed) in
    record {
      canonical = record {
        ordered = ordered;
        primitive = content_is_one signed r form.content form.is_content same;
        first = positive_first turned ts r form.content form.is_content.positive form.times full (above_first turned ts h is);
      };
      content = form.content;
      is_content = content_signed turned ts form.content form.is_content;
      same = same_signed turned ts r form.content same;
    }

-- and has the sign of the signed terms
pub canonical_has_sign : (turned : Bool) (ts r : List Monomial) → IsKept ts → IsSignedForm turned ts r
    → HaveSameSign r (scaled (if turned then negsuc 0 else pos 1) ts)
canonical_has_sign turned ts r kept form =
    let signed : List Monomial = scaled (if turned then negsuc 0 else pos 1) ts in
    primitive_has_same_sign signed r
    (form_is_primitive signed r (kept_signed turned ts kept).ordered (record { content = form.content; is_content = form.is_content; times = form.times }))

-- a symbol is kept
greatest_of-set : (e : List ℕ) (x v : ℕ) → greatest_of (set e x v) ≤ max v (greatest_of e)
greatest_of-set [] x v = omega arith
greatest_of-set (n ∷ e) zero v = omega arith
greatest_of-set (n ∷ e) (suc x) v = let r = greatest_of-set e x v in omega (arith, r)

pub kept_symbol : (x : ℕ) (r : List Monomial) → r ≡ symbol_of x → IsKept r
kept_symbol x r is = subst IsKept (sym is) (record {
  ordered = (record { nonzero = λ e. absurd (omega (arith, ints, e)); places = length-set (replicate 32 0) x 1 }, tt, tt);
  within = record {
    terms = omega arith;
    exponents = let h = greatest_of-set (replicate 32 0) x 1 in omega (arith, h);
    coefficients = omega arith;
  };
})

pub kept_multiplied : (turned : Bool) (ts all x : List Monomial) → all ≡ scaled (if turned then negsuc 0 else pos 1) ts → x ≡ all → IsKept ts → IsKept x
kept_multiplied turned ts all x is same h = subst IsKept (sym (same ∙ is)) (kept_signed turned ts h)

pub ordered_form : (turned : Bool) (ts r : List Monomial) → IsKept ts → IsSignedForm turned ts r → IsPolynomial r
ordered_form turned ts r kept form =
    ordered_of_scaled (pos form.content) r (subst IsPolynomial (sym form.times) (kept_signed turned ts kept).ordered)

-- a unit at 64 bits
pub unit_within : (turned : Bool) (u : ℤ) → u ≡ (if turned then negsuc 0 else pos 1) → to_z w64 (of_z w64 u) ≡ (if turned then negsuc 0 else pos 1)
unit_within true u is = omega (arith, ints, is)
unit_within false u is = omega (arith, ints, is)
