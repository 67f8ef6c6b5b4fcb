-- A quotient of rational functions stands for the quotient of the numbers, where the divisor isn't 0.
use Rattle.std.proofs.Common.{◌≡◌, ℕ, ◌<◌, ℤ, pos, neg_ℤ, ◌*ℤ◌, Bool, true, false, List, [], refl, sym, ap, ◌∙◌, arith, inl, inr}
use Rattle.std.specs.Prelude.{if◌then◌else◌}
use Rattle.std.proofs.Math.IntN.{*ℤ_comm}
use borrow.Author.Differences.{same_in}
use Rattle.theory_meaning.proofs.WholeLaws.{up-times, down-times, up-neg, down-neg}
use Rattle.theory_polynomial.proofs.CoefficientLaws.{times_zero}
use Rattle.theory_meaning.specs.declared.words.Sign.TheVariants.{Zero}
use Rattle.theory_meaning.specs.Fraction.{Fraction, whole, product_of, reciprocal_of, quotient_of}
use Rattle.theory_meaning.proofs.ValueLaws.{product_assoc}
use Rattle.theory_meaning.proofs.FractionLaws.{Equals, exact, back, along, products, one_times, product_left_swap, product_middle_swap, sign_of_same}
use Rattle.theory_polynomial.specs.Polynomial.{Monomial, IsCanonicalOf, product_of as polynomial_product, scaled, constant_of}
use Rattle.theory_polynomial.specs.PolynomialValue.{Values, polynomial_at}
use Rattle.theory_polynomial.specs.RationalPolynomial.{Quotient, product_of_quotients, quotient_at}
use Rattle.theory_polynomial.proofs.PolynomialValues.{value_of_scaled, value_of_same, value_of_product}
use Rattle.theory_lowering.specs.RationalFunction.{RationalFunction, times, scale_of, IsOver, IsQuotientOf}
use Rattle.theory_lowering.proofs.QuotientValues.{itself, inverse, cancel, last_swap, lowest_value, product_quotient, constant_value, times_positive}
use Rattle.theory_lowering.proofs.RationalValues.{IsNonzero, nonzero_product, nonzero_same, times_reciprocal, StandsFor, fraction_stands, times_value, bottoms_nonzero}

-- the sign of a content goes where the content goes
abbrev signed : Bool → ℕ → ℤ
signed turned d = if turned then neg_ℤ (pos d) else pos d

both_signed : (turned : Bool) (d g : ℕ) → signed turned d *ℤ signed turned g ≡ pos d *ℤ pos g
both_signed true d g = same_in _ _ (simp (up-times, down-times, up-neg, down-neg) (omega arith))
both_signed false d g = refl

-- d over c times the top n over d is the canonical form of n
scale_times_top : (top : Quotient) (turned : Bool) (poly : List Monomial) (p : Values) → 0 < top.below → (form : IsCanonicalOf top.top turned poly)
    → Equals (product_of (quotient_at (scale_of turned top.below form.content) p) (quotient_at top p)) (polynomial_at poly p)
scale_times_top top turned poly p some form =
    let d : ℕ = top.below in
    let g : ℕ = form.content in
    let c : Fraction = polynomial_at poly p in
    let wd : Fraction = whole (signed turned d) in
    let wg : Fraction = whole (signed turned g) in
    let n : Equals (polynomial_at top.top p) (product_of wg c) =
    along (value_of_same top.top (scaled (signed turned g) poly) p form.same) (value_of_scaled (signed turned g) poly p) in
    let tops : Equals (product_of (polynomial_at (constant_of (signed turned d)) p) (polynomial_at top.top p))
    (product_of (whole (pos d)) (product_of (whole (pos g)) c)) =
    along (products (constant_value (signed turned d) p) n)
    (exact (sym (product_assoc wd wg c) ∙ ap (λ (z : ℤ). product_of (whole z) c) (both_signed turned d g)
    ∙ product_assoc (whole (pos d)) (whole (pos g)) c)) in
    let rest : Fraction = product_of (whole (pos g)) c in
    along (exact (product_middle_swap (polynomial_at (constant_of (signed turned d)) p) (inverse g) (polynomial_at top.top p) (inverse d)))
    (along (products tops (itself (product_of (inverse g) (inverse d))))
    (along (exact (sym (product_assoc (product_of (whole (pos d)) rest) (inverse g) (inverse d))
    ∙ last_swap (product_of (whole (pos d)) rest) (inverse g) (inverse d)))
    (along (products (cancel d rest some) (itself (inverse g))) (cancel g c form.is_content.positive))))

-- x over y, in the numbers that stand in a quotient
divided : (x y A B C T s : Fraction) → IsNonzero y → Equals (product_of y B) T → Equals (product_of s T) C
    → Equals (product_of (quotient_of x y) (product_of A C)) (product_of (product_of (product_of x A) s) B)
divided x y A B C T s some k m =
    let i : Fraction = reciprocal_of y in
    let moved : product_of i (product_of s (product_of y B)) ≡ product_of s (product_of (product_of y i) B) =
    product_left_swap i s (product_of y B)
    ∙ ap (product_of s) (product_left_swap i y B ∙ sym (product_assoc y i B)) in
    let rest : Equals (product_of i C) (product_of s B) =
    along (products (itself i) (back (along (products (itself s) k) m)))
    (along (exact moved) (products (itself s) (along (products (times_reciprocal y some) (itself B)) (exact (one_times B))))) in
    along (exact (product_middle_swap x i A C))
    (along (products (itself (product_of x A)) rest) (exact (sym (product_assoc (product_of x A) s B))))

-- a top whose canonical form is 0 is 0, and so is one without terms
times_nothing : (n m k : ℤ) → m ≡ pos 0 → n *ℤ m *ℤ k ≡ pos 0
times_nothing n m k h = ap (λ (z : ℤ). n *ℤ z *ℤ k) h ∙ ap (λ (z : ℤ). z *ℤ k) (times_zero n) ∙ *ℤ_comm (pos 0) k ∙ times_zero k

top_of_zero : (turned : Bool) (top : Quotient) (poly : List Monomial) (p : Values) → IsCanonicalOf top.top turned poly
    → (polynomial_at poly p).num ≡ pos 0 → (quotient_at top p).num ≡ pos 0
top_of_zero turned top poly p form none =
    let n : Equals (polynomial_at top.top p) (product_of (whole (signed turned form.content)) (polynomial_at poly p)) =
    along (value_of_same top.top (scaled (signed turned form.content) poly) p form.same) (value_of_scaled (signed turned form.content) poly p) in
    sign_of_same (product_of (product_of (whole (signed turned form.content)) (polynomial_at poly p)) (inverse top.below)) (quotient_at top p) Zero
    (back (products n (itself (inverse top.below)))).is (times_nothing (signed turned form.content) (polynomial_at poly p).num (pos 1) none)

top_is_nothing : (top : Quotient) (p : Values) → top.top ≡ [] → (quotient_at top p).num ≡ pos 0
top_is_nothing top p none = ap (λ (P : List Monomial). (polynomial_at P p).num *ℤ pos 1) none

module _ (a b r : RationalFunction) (p : Values) (x y : Fraction) (h : StandsFor a p x) (k : StandsFor b p y) where
  -- the divisor's top isn't 0, and so its canonical form isn't
  top_nonzero : IsNonzero y → IsNonzero (quotient_at b.top p)
  top_nonzero some =
      nonzero_same (product_of y (polynomial_at b.bottom p)) (quotient_at b.top p) k.value
      (nonzero_product y (polynomial_at b.bottom p) some k.nonzero)

  canonical_nonzero : (turned : Bool) (poly : List Monomial) → IsNonzero y → IsCanonicalOf b.top.top turned poly → IsNonzero (polynomial_at poly p)
  canonical_nonzero turned poly some form none =
      top_nonzero some (top_of_zero turned b.top poly p form none)

  over_stands : IsNonzero y → IsOver a b r → StandsFor r p (quotient_of x y)
  over_stands some is =
      let s : Quotient = scale_of is.turned b.top.below is.form.content in
      let A : Fraction = polynomial_at a.bottom p in
      let B : Fraction = polynomial_at b.bottom p in
      let C : Fraction = polynomial_at is.poly p in
      let positive : 0 < (product_of_quotients a.top s).below =
      times_positive a.top.below is.form.content h.positive is.form.is_content.positive in
      let scaled_value : Equals (quotient_at is.scaled p) (product_of (product_of x A) (quotient_at s p)) =
      along (lowest_value (product_of_quotients a.top s) is.scaled p positive is.scaled_is)
      (along (product_quotient a.top s p h.positive is.form.is_content.positive) (products (back h.value) (itself (quotient_at s p)))) in
      fraction_stands (times is.scaled b.bottom) (polynomial_product a.bottom is.poly) r p (quotient_of x y)
      (times_positive is.scaled.below 1 is.scaled_is.lowest.positive (omega arith)) is.whole
      (bottoms_nonzero a.bottom is.poly p h.nonzero (canonical_nonzero is.turned is.poly some is.form))
      (along (products (itself (quotient_of x y)) (value_of_product a.bottom is.poly p))
      (along (divided x y A B C (quotient_at b.top p) (quotient_at s p) some k.value (scale_times_top b.top is.turned is.poly p k.positive is.form))
      (along (products (back scaled_value) (itself B)) (back (times_value is.scaled b.bottom p is.scaled_is.lowest.positive)))))

  pub quotient_stands : IsNonzero y → IsQuotientOf a b r → StandsFor r p (quotient_of x y)
  quotient_stands some (inl is) = absurd (top_nonzero some (top_is_nothing b.top p is.none))
  quotient_stands some (inr is) = over_stands some is
