-- A sum of terms has one primitive and one canonical form, and a quotient one lowest form.
use Rattle.std.proofs.Common.{◌≡◌, ℕ, ◌+◌, ◌*◌, ◌<◌, ℤ, pos, negsuc, neg_ℤ, ◌*ℤ◌, Bool, true, false, List, [], ◌∷◌, refl, sym, ap, ap₂, ◌∙◌, subst, arith, unsigned_abs}
use Prim.Native.Nat.{◌∣◌}
use Rattle.std.specs.Prelude.{if◌then◌else◌}
use Rattle.std.proofs.Math.Nat.{dvd-mul_right}
use Rattle.std.proofs.Math.IntN.{*ℤ_comm}
use Rattle.std.proofs.lemmas.Int.{ints, unsigned_abs-mul}
use Rattle.theory_meaning.proofs.WholeLaws.{neg-times}
use Rattle.theory_polynomial.specs.Polynomial.{Monomial, coefficient_at, AreSame, PrecedesFirst, IsPolynomial, IsContent, IsPrimitiveOf, IsCanonicalOf, HasPositiveFirst, scaled}
use Rattle.theory_polynomial.specs.RationalPolynomial.{Quotient, IsLowestOf}
use Rattle.theory_polynomial.proofs.CommonParts.{InRatio, part_within}
use Rattle.theory_polynomial.proofs.CoefficientLaws.{coefficient_at-scaled, times_zero, times_times}
use Rattle.theory_polynomial.proofs.FixedOrder.{polynomial_unique}
use Rattle.theory_polynomial.proofs.PrimitiveLaws.{content_of_same, content_unique, primitive_unique, without_factor}

-- a multiple of a polynomial is one
abbrev KeepsNonzero : ℤ → Type 0
KeepsNonzero n = (c : ℤ) → n *ℤ c ≡ pos 0 → c ≡ pos 0

multiple_first : (n : ℤ) (e : List ℕ) (ts : List Monomial) → PrecedesFirst e ts → PrecedesFirst e (scaled n ts)
multiple_first n e [] h = h
multiple_first n e (t ∷ ts) h = h

multiple_ordered : (n : ℤ) (ts : List Monomial) → KeepsNonzero n → IsPolynomial ts → IsPolynomial (scaled n ts)
multiple_ordered n [] keeps h = tt
multiple_ordered n (t ∷ ts) keeps h = (
  record { nonzero = λ e. h.0.nonzero (keeps t.coefficient e); places = h.0.places },
  multiple_first n t.powers ts h.1,
  multiple_ordered n ts keeps h.2,
)

positive_keeps : (g : ℕ) → 0 < g → KeepsNonzero (pos g)
positive_keeps g h c e = without_factor g c (pos 0) h (e ∙ sym (times_zero (pos g)))

unturned : (z : ℤ) → neg_ℤ z ≡ pos 0 → z ≡ pos 0
unturned z h = omega (arith, ints, h)

negative_keeps : (g : ℕ) → 0 < g → KeepsNonzero (neg_ℤ (pos g))
negative_keeps g h c e = positive_keeps g h c (unturned (pos g *ℤ c) (sym (neg-times (pos g) c) ∙ e))

signed_keeps : (b : Bool) (g : ℕ) → 0 < g → KeepsNonzero (if b then neg_ℤ (pos g) else pos g)
signed_keeps true g h = negative_keeps g h
signed_keeps false g h = positive_keeps g h

-- a sum of terms that is the same as a multiple of a polynomial has one content
one_content : (n : ℤ) (ts r : List Monomial) (g k : ℕ) → KeepsNonzero n → IsPolynomial r → AreSame ts (scaled n r) → IsContent ts g → IsContent ts k → g ≡ k
one_content n ts r g k keeps h same a b =
    content_unique (scaled n r) g k (multiple_ordered n r keeps h) (content_of_same ts (scaled n r) g same a) (content_of_same ts (scaled n r) k same b)

-- what is left after the division by the content is one polynomial
pub primitive_single : (ts r s : List Monomial) → IsPrimitiveOf ts r → IsPrimitiveOf ts s → r ≡ s
primitive_single ts r s a b =
    primitive_unique ts (scaled (pos a.0) r) r s
    (record { ordered = multiple_ordered (pos a.0) r (positive_keeps a.0 a.1.positive) a.2; same = a.3 }) a b

-- a turned polynomial has no positive first coefficient where the polynomial has one
both_positive : (r s : List Monomial) → r ≡ scaled (negsuc 0) s → HasPositiveFirst r → HasPositiveFirst s → ⊥
both_positive r [] e h k = absurd k
both_positive r (t ∷ ts) e h k =
    let first = subst HasPositiveFirst e h in
    let a = first.1 in
    let b = k.1 in
    absurd (omega (arith, ints, a, b))

times_turned : (g : ℕ) (a : ℤ) → pos g *ℤ (negsuc 0 *ℤ a) ≡ negsuc 0 *ℤ (pos g *ℤ a)
times_turned g a = times_times (pos g) (negsuc 0) a ∙ ap (λ z. z *ℤ a) (*ℤ_comm (pos g) (negsuc 0)) ∙ sym (times_times (negsuc 0) (pos g) a)

turned_factor : (g : ℕ) (a : ℤ) → neg_ℤ (pos g) *ℤ a ≡ pos g *ℤ (negsuc 0 *ℤ a)
turned_factor g a =
    let e = neg-times (pos g) a in
    let f = times_turned g a in omega (arith, ints, e, f)

untwisted : (a b : ℤ) → neg_ℤ a ≡ neg_ℤ b → a ≡ b
untwisted a b h = omega (arith, ints, h)

turned_keeps : KeepsNonzero (negsuc 0)
turned_keeps c e = omega (arith, ints, e)

-- the canonical form, and whether the sign is turned
module _ (ts : List Monomial) where
  abbrev factor : Bool → ℕ → ℤ
  factor b g = if b then neg_ℤ (pos g) else pos g

  same_content : (b c : Bool) (r s : List Monomial) (w : IsCanonicalOf ts b r) (v : IsCanonicalOf ts c s) → w.content ≡ v.content
  same_content b c r s w v =
      one_content (factor b w.content) ts r w.content v.content (signed_keeps b w.content w.is_content.positive) w.canonical.ordered w.same
      w.is_content v.is_content

  scaled_at : (b : Bool) (r : List Monomial) (w : IsCanonicalOf ts b r) (e : List ℕ) → coefficient_at ts e ≡ factor b w.content *ℤ coefficient_at r e
  scaled_at b r w e = w.same.at e ∙ coefficient_at-scaled (factor b w.content) r e

  same_kept : (r s : List Monomial) → IsCanonicalOf ts false r → IsCanonicalOf ts false s → r ≡ s
  same_kept r s w v =
      polynomial_unique r s w.canonical.ordered v.canonical.ordered (record {
        at = λ e.
            without_factor w.content (coefficient_at r e) (coefficient_at s e) w.is_content.positive
            (sym (scaled_at false r w e) ∙ scaled_at false s v e
            ∙ ap (λ (g : ℕ). pos g *ℤ coefficient_at s e) (sym (same_content false false r s w v)));
      })

  same_when_turned : (r s : List Monomial) → IsCanonicalOf ts true r → IsCanonicalOf ts true s → r ≡ s
  same_when_turned r s w v =
      polynomial_unique r s w.canonical.ordered v.canonical.ordered (record {
        at = λ e.
            without_factor w.content (coefficient_at r e) (coefficient_at s e) w.is_content.positive
            (untwisted (pos w.content *ℤ coefficient_at r e) (pos w.content *ℤ coefficient_at s e)
            (sym (neg-times (pos w.content) (coefficient_at r e)) ∙ sym (scaled_at true r w e) ∙ scaled_at true s v e
            ∙ ap (λ (g : ℕ). neg_ℤ (pos g) *ℤ coefficient_at s e) (sym (same_content true true r s w v))
            ∙ neg-times (pos w.content) (coefficient_at s e)));
      })

  not_both_ways : (r s : List Monomial) → IsCanonicalOf ts false r → IsCanonicalOf ts true s → ⊥
  not_both_ways r s w v =
      both_positive r s
      (polynomial_unique r (scaled (negsuc 0) s) w.canonical.ordered (multiple_ordered (negsuc 0) s turned_keeps v.canonical.ordered) (record {
        at = λ e.
            without_factor w.content (coefficient_at r e) (coefficient_at (scaled (negsuc 0) s) e) w.is_content.positive
            (sym (scaled_at false r w e) ∙ scaled_at true s v e
            ∙ ap (λ (g : ℕ). neg_ℤ (pos g) *ℤ coefficient_at s e) (sym (same_content false true r s w v))
            ∙ turned_factor w.content (coefficient_at s e) ∙ ap (λ (z : ℤ). pos w.content *ℤ z) (sym (coefficient_at-scaled (negsuc 0) s e)));
      })) w.canonical.first v.canonical.first

  pub canonical_single : (b c : Bool) (r s : List Monomial) → IsCanonicalOf ts b r → IsCanonicalOf ts c s → (b ≡ c) × (r ≡ s)
  canonical_single true true r s w v = (refl, same_when_turned r s w v)
  canonical_single false false r s w v = (refl, same_kept r s w v)
  canonical_single true false r s w v = absurd (not_both_ways s r v w)
  canonical_single false true r s w v = absurd (not_both_ways r s w v)

-- two lowest forms have the same cross products
swapped_factors : (a b c : ℤ) → a *ℤ (b *ℤ c) ≡ b *ℤ (a *ℤ c)
swapped_factors a b c = times_times a b c ∙ ap (λ z. z *ℤ c) (*ℤ_comm a b) ∙ sym (times_times b a c)

cross_products : (qb rb sb : ℕ) (q r s : ℤ) → 0 < qb → pos qb *ℤ r ≡ pos rb *ℤ q → pos qb *ℤ s ≡ pos sb *ℤ q → pos sb *ℤ r ≡ pos rb *ℤ s
cross_products qb rb sb q r s some h k =
    without_factor qb (pos sb *ℤ r) (pos rb *ℤ s) some (omega (
      arith,
      ints,
      swapped_factors (pos qb) (pos sb) r,
      swapped_factors (pos qb) (pos rb) s,
      swapped_factors (pos sb) (pos rb) q,
      ap (λ z. pos sb *ℤ z) h,
      ap (λ z. pos rb *ℤ z) k,
    ))

abbrev made : List Monomial → ℕ → Quotient
made ts n = record { top = ts; below = n }

module _ (q r s : Quotient) (some : 0 < q.below) (h : IsLowestOf q r) (k : IsLowestOf q s) where
  forms_cross : (e : List ℕ) → pos s.below *ℤ coefficient_at r.top e ≡ pos r.below *ℤ coefficient_at s.top e
  forms_cross e =
      cross_products q.below r.below s.below (coefficient_at q.top e) (coefficient_at r.top e) (coefficient_at s.top e) some
      (sym (coefficient_at-scaled (pos q.below) r.top e) ∙ h.same.at e ∙ coefficient_at-scaled (pos r.below) q.top e)
      (sym (coefficient_at-scaled (pos q.below) s.top e) ∙ k.same.at e ∙ coefficient_at-scaled (pos s.below) q.top e)

  sizes_cross : InRatio r.below s.below (λ e. unsigned_abs (coefficient_at r.top e)) (λ e. unsigned_abs (coefficient_at s.top e))
  sizes_cross e =
      sym (unsigned_abs-mul (pos s.below) (coefficient_at r.top e)) ∙ ap unsigned_abs (forms_cross e)
      ∙ unsigned_abs-mul (pos r.below) (coefficient_at s.top e)

  -- so they have one number below
  same_below : r.below ≡ s.below
  same_below =
      let common = part_within (r.below + s.below) r.below s.below (λ e. unsigned_abs (coefficient_at r.top e))
      (λ e. unsigned_abs (coefficient_at s.top e)) (omega arith) h.lowest.positive k.lowest.positive sizes_cross in
      let one = h.lowest.lowest common.first (subst (λ n. common.first ∣ n) (sym common.first_is) (dvd-mul_right common.first common.part))
      (λ e. subst (λ n. common.first ∣ n) (sym (common.firsts_are e)) (dvd-mul_right common.first (common.family e))) in
      let two = k.lowest.lowest common.second (subst (λ n. common.second ∣ n) (sym common.second_is) (dvd-mul_right common.second common.part))
      (λ e. subst (λ n. common.second ∣ n) (sym (common.seconds_are e)) (dvd-mul_right common.second (common.family e))) in
      common.first_is ∙ ap (λ n. n * common.part) (one ∙ sym two) ∙ sym common.second_is

  -- and are one quotient
  pub lowest_single : r ≡ s
  lowest_single =
      let same : AreSame r.top s.top = record {
        at = λ e.
            without_factor s.below (coefficient_at r.top e) (coefficient_at s.top e) k.lowest.positive
            (forms_cross e ∙ ap (λ n. pos n *ℤ coefficient_at s.top e) same_below);
      } in
      ap₂ made (polynomial_unique r.top s.top h.lowest.ordered k.lowest.ordered same) same_below
