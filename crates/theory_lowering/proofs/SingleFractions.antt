-- The operations on rational functions give one rational function each, in lowest form over a polynomial.
use Rattle.std.proofs.Common.{◌≡◌, ℕ, zero, suc, ◌<◌, ℤ, pos, neg_ℤ, ◌*ℤ◌, Bool, true, false, List, [], ◌∷◌, sym, ap, ap₂, ◌∙◌, subst, subst₂, arith, inl, inr}
use Rattle.std.specs.Prelude.{if◌then◌else◌}
use Rattle.std.proofs.lemmas.Int.{ints}
use Rattle.theory_polynomial.specs.Polynomial.{Monomial, AreSame, IsPolynomial, IsPolynomialOf, IsCanonicalOf, HasPositiveFirst, product_of, scaled}
use Rattle.theory_polynomial.specs.RationalPolynomial.{Quotient, IsLowest, IsLowestOf, sum_of_quotients, difference_of_quotients, product_of_quotients}
use Rattle.theory_polynomial.proofs.CoefficientLaws.{coefficient_at-scaled}
use Rattle.theory_polynomial.proofs.FixedOrder.{polynomial_unique, coefficient_first}
use Rattle.theory_polynomial.proofs.PrimitiveLaws.{content_unique}
use Rattle.theory_polynomial.proofs.SingleForms.{canonical_single, lowest_single}
use Rattle.theory_lowering.specs.RationalFunction.{RationalFunction, over, one, times, opposite_of_quotient, scale_of, IsFractionOf, IsOverBoth, IsJoinOf, IsOppositeOf, IsProductOf, IsPowerOf, IsOver, IsQuotientOf}
use Rattle.theory_lowering.proofs.QuotientValues.{times_positive}
use Rattle.theory_lowering.proofs.RationalValues.{whole_nonzero}

-- a top in lowest form over a polynomial
pub record IsReduced (r : RationalFunction) : Type 0 where
  pub low : IsLowest r.top
  pub ordered : IsPolynomial r.bottom

-- at most one rational function is so, and it is reduced
pub record Form (U : RationalFunction → Type 0) : Type 0 where
  pub reduced : (a : RationalFunction) → U a → IsReduced a
  pub unique : (a b : RationalFunction) → U a → U b → a ≡ b

polynomial_single : (ts r s : List Monomial) → IsPolynomialOf ts r → IsPolynomialOf ts s → r ≡ s
polynomial_single ts r s h k =
    polynomial_unique r s h.ordered k.ordered (record { at = λ e. h.same.at e ∙ sym (k.same.at e) })

made : Quotient → List Monomial → RationalFunction
made q P = record { top = q; bottom = P }

pub fraction_reduced : (top : Quotient) (bottom : List Monomial) (r : RationalFunction) → IsFractionOf top bottom r → IsReduced r
fraction_reduced top bottom r h = record { low = h.top_is.lowest; ordered = h.bottom_is.ordered }

pub fraction_single : (top : Quotient) (bottom : List Monomial) (r s : RationalFunction) → 0 < top.below → IsFractionOf top bottom r
    → IsFractionOf top bottom s → r ≡ s
unfolding made
fraction_single top bottom r s some h k =
    ap₂ made (lowest_single top r.top s.top some h.top_is k.top_is) (polynomial_single bottom r.bottom s.bottom h.bottom_is k.bottom_is)

pub fraction_form : (top : Quotient) (bottom : List Monomial) → 0 < top.below → Form (IsFractionOf top bottom)
fraction_form top bottom some = record { reduced = fraction_reduced top bottom; unique = λ r s h k. fraction_single top bottom r s some h k }

-- an operation gives one rational function for two that are reduced
pub record IsOperation (Op : RationalFunction → RationalFunction → RationalFunction → Type 0) : Type 0 where
  pub form : (a b : RationalFunction) → IsReduced a → IsReduced b → Form (Op a b)

-- sums and differences
module _ (op : Quotient → Quotient → Quotient) (keeps : (a b : Quotient) → 0 < a.below → 0 < b.below → 0 < (op a b).below) where
  join_reduced : (a b r : RationalFunction) → IsJoinOf op a b r → IsReduced r
  join_reduced a b r (inl h) = fraction_reduced (op a.top b.top) a.bottom r h.whole
  join_reduced a b r (inr h) = fraction_reduced (op h.first h.second) (product_of a.bottom b.bottom) r h.whole

  both_single : (a b r s : RationalFunction) → IsReduced a → IsReduced b → IsOverBoth op a b r → IsOverBoth op a b s → r ≡ s
  both_single a b r s l m h k =
      let first = lowest_single (times a.top b.bottom) k.first h.first (times_positive a.top.below 1 l.low.positive (omega arith)) k.first_is h.first_is in
      let second = lowest_single (times b.top a.bottom) k.second h.second (times_positive b.top.below 1 m.low.positive (omega arith)) k.second_is
      h.second_is in
      fraction_single (op h.first h.second) (product_of a.bottom b.bottom) r s
      (keeps h.first h.second h.first_is.lowest.positive h.second_is.lowest.positive) h.whole
      (subst₂ (λ x y. IsFractionOf (op x y) (product_of a.bottom b.bottom) s) first second k.whole)

  join_single : (a b r s : RationalFunction) → IsReduced a → IsReduced b → IsJoinOf op a b r → IsJoinOf op a b s → r ≡ s
  join_single a b r s l m (inl h) (inl k) =
      fraction_single (op a.top b.top) a.bottom r s (keeps a.top b.top l.low.positive m.low.positive) h.whole k.whole
  join_single a b r s l m (inl h) (inr k) = absurd (k.apart h.common)
  join_single a b r s l m (inr h) (inl k) = absurd (h.apart k.common)
  join_single a b r s l m (inr h) (inr k) = both_single a b r s l m h k

  pub join_operation : IsOperation (IsJoinOf op)
  join_operation = record {
    form = λ a b l m. record { reduced = join_reduced a b; unique = λ r s h k. join_single a b r s l m h k };
  }

pub sum_operation : IsOperation (IsJoinOf sum_of_quotients)
sum_operation = join_operation sum_of_quotients (λ a b. times_positive a.below b.below)

pub difference_operation : IsOperation (IsJoinOf difference_of_quotients)
difference_operation = join_operation difference_of_quotients (λ a b. times_positive a.below b.below)

-- opposites, products and powers
pub opposite_form : (a : RationalFunction) → IsReduced a → Form (IsOppositeOf a)
opposite_form a l = fraction_form (opposite_of_quotient a.top) a.bottom (times_positive 1 a.top.below (omega arith) l.low.positive)

product_form : (a b : RationalFunction) → IsReduced a → IsReduced b → Form (IsProductOf a b)
product_form a b l m =
    fraction_form (product_of_quotients a.top b.top) (product_of a.bottom b.bottom)
    (times_positive a.top.below b.top.below l.low.positive m.low.positive)

pub product_operation : IsOperation IsProductOf
product_operation = record { form = product_form }

pub power_form : (a : RationalFunction) (k : ℕ) → IsReduced a → Form (IsPowerOf a k)
power_form a zero l = fraction_form (over one 1) one (omega arith)
power_form a (suc k) l =
    let lower = power_form a k l in record {
      reduced = λ r h. (product_form h.0 a (lower.reduced h.0 h.1) l).reduced r h.2;
      unique = λ r s h k.
          let same = lower.unique k.0 h.0 k.1 h.1 in
          (product_form h.0 a (lower.reduced h.0 h.1) l).unique r s h.2 (subst (λ b. IsProductOf b a s) same k.2);
    }

-- nothing has no canonical form
signed_nonzero : (turned : Bool) (g : ℕ) → 0 < g → ¬ ((if turned then neg_ℤ (pos g) else pos g) ≡ pos 0)
signed_nonzero true g h e = absurd (omega (arith, ints, h, e))
signed_nonzero false g h e = absurd (omega (arith, ints, h, e))

canonical_of_nothing : (turned : Bool) (poly : List Monomial) → IsPolynomial poly → HasPositiveFirst poly → (g : ℕ) → 0 < g
    → AreSame [] (scaled (if turned then neg_ℤ (pos g) else pos g) poly) → ⊥
canonical_of_nothing turned [] o f g h same = f
canonical_of_nothing turned (t ∷ ts) o f g h same =
    let factor : ℤ = if turned then neg_ℤ (pos g) else pos g in
    whole_nonzero factor t.coefficient (signed_nonzero turned g h) (λ e. let first = f.1 in absurd (omega (arith, ints, e, first)))
    (ap (λ (z : ℤ). factor *ℤ z) (sym (coefficient_first t ts o))
    ∙ sym (coefficient_at-scaled factor (t ∷ ts) t.powers) ∙ sym (same.at t.powers))

pub no_canonical : (turned : Bool) (top poly : List Monomial) → top ≡ [] → IsCanonicalOf top turned poly → ⊥
no_canonical turned top poly none form =
    canonical_of_nothing turned poly form.canonical.ordered form.canonical.first form.content form.is_content.positive
    (subst (λ P. AreSame P (scaled (if turned then neg_ℤ (pos form.content) else pos form.content) poly)) none form.same)

-- quotients
module _ (a b : RationalFunction) (l : IsReduced a) (m : IsReduced b) where
  scaled_single : (t u : Bool) (g k : ℕ) (x y : Quotient) → 0 < g → u ≡ t → k ≡ g
      → IsLowestOf (product_of_quotients a.top (scale_of t b.top.below g)) x
      → IsLowestOf (product_of_quotients a.top (scale_of u b.top.below k)) y → y ≡ x
  scaled_single t u g k x y some e f h w =
      lowest_single (product_of_quotients a.top (scale_of t b.top.below g)) y x (times_positive a.top.below g l.low.positive some)
      (subst₂ (λ (v : Bool) (n : ℕ). IsLowestOf (product_of_quotients a.top (scale_of v b.top.below n)) y) e f w) h

  over_single : (r s : RationalFunction) → IsOver a b r → IsOver a b s → r ≡ s
  over_single r s h k =
      let same = canonical_single b.top.top k.turned h.turned k.poly h.poly k.form h.form in
      let content = content_unique b.top.top k.form.content h.form.content m.low.ordered k.form.is_content h.form.is_content in
      let scaled = scaled_single h.turned k.turned h.form.content k.form.content h.scaled k.scaled h.form.is_content.positive same.0 content h.scaled_is
      k.scaled_is in
      fraction_single (times h.scaled b.bottom) (product_of a.bottom h.poly) r s
      (times_positive h.scaled.below 1 h.scaled_is.lowest.positive (omega arith)) h.whole
      (subst₂ (λ (x : Quotient) (P : List Monomial). IsFractionOf (times x b.bottom) (product_of a.bottom P) s) scaled same.1 k.whole)

  quotient_reduced : (r : RationalFunction) → IsQuotientOf a b r → IsReduced r
  quotient_reduced r (inl h) = fraction_reduced (over [] 1) one r h.whole
  quotient_reduced r (inr h) = fraction_reduced (times h.scaled b.bottom) (product_of a.bottom h.poly) r h.whole

  quotient_single : (r s : RationalFunction) → IsQuotientOf a b r → IsQuotientOf a b s → r ≡ s
  quotient_single r s (inl h) (inl k) = fraction_single (over [] 1) one r s (omega arith) h.whole k.whole
  quotient_single r s (inl h) (inr k) = absurd (no_canonical k.turned b.top.top k.poly h.none k.form)
  quotient_single r s (inr h) (inl k) = absurd (no_canonical h.turned b.top.top h.poly k.none h.form)
  quotient_single r s (inr h) (inr k) = over_single r s h k

pub quotient_operation : IsOperation IsQuotientOf
quotient_operation = record { form = λ a b l m. record { reduced = quotient_reduced a b l m; unique = quotient_single a b l m } }
