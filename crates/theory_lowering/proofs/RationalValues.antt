-- What a rational function stands for: a bottom that isn't 0, and a value that times the bottom is the top.
use Rattle.std.proofs.Common.{◌≡◌, ℕ, zero, suc, ◌<◌, ℤ, pos, negsuc, ◌*ℤ◌, List, refl, sym, ap, ◌∙◌, arith, inl, inr}
use Rattle.std.proofs.lemmas.Int.{ints}
use Rattle.theory_meaning.specs.declared.words.Sign.TheVariants.{Zero}
use Rattle.theory_meaning.specs.Fraction.{Fraction, whole, sum_of, difference_of, product_of, opposite_of, power_of, reciprocal_by, reciprocal_of}
use Rattle.theory_meaning.proofs.ValueLaws.{product-swap, product_assoc, difference-is, opposite-product}
use Rattle.theory_meaning.proofs.FractionLaws.{Equals, exact, back, along, sums, products, product_middle_swap, sum_times_is, sign_of_same}
use Rattle.theory_polynomial.specs.Polynomial.{Monomial, product_of as polynomial_product}
use Rattle.theory_polynomial.specs.PolynomialValue.{Values, polynomial_at}
use Rattle.theory_polynomial.specs.RationalPolynomial.{Quotient, sum_of_quotients, difference_of_quotients, product_of_quotients, quotient_at}
use Rattle.theory_polynomial.proofs.PolynomialValues.{value_of_same, value_of_product}
use Rattle.theory_lowering.specs.RationalFunction.{RationalFunction, over, one, times, opposite_of_quotient, IsFractionOf, IsOverBoth, IsOverCommon, IsJoinOf, IsOppositeOf, IsProductOf, IsPowerOf}
use Rattle.theory_lowering.proofs.QuotientValues.{itself, times_one, lowest_value, sum_quotient, difference_quotient, product_quotient, opposite_quotient, opposites, constant_value, over_one, times_positive}

-- fractions other than 0
abbrev pub IsNonzero : Fraction → Type 0
IsNonzero q = ¬ (q.num ≡ pos 0)

pub whole_nonzero : (m n : ℤ) → ¬ (m ≡ pos 0) → ¬ (n ≡ pos 0) → ¬ (m *ℤ n ≡ pos 0)
whole_nonzero (pos zero) n h k e = h refl
whole_nonzero (pos (suc a)) (pos zero) h k e = k refl
whole_nonzero (pos (suc a)) (pos (suc b)) h k e = absurd (omega (arith, ints, e))
whole_nonzero (pos (suc a)) (negsuc b) h k e = absurd (omega (arith, ints, e))
whole_nonzero (negsuc a) (pos zero) h k e = k refl
whole_nonzero (negsuc a) (pos (suc b)) h k e = absurd (omega (arith, ints, e))
whole_nonzero (negsuc a) (negsuc b) h k e = absurd (omega (arith, ints, e))

pub nonzero_product : (q r : Fraction) → IsNonzero q → IsNonzero r → IsNonzero (product_of q r)
nonzero_product q r h k = whole_nonzero q.num r.num h k

pub nonzero_same : (q r : Fraction) → Equals q r → IsNonzero q → IsNonzero r
nonzero_same q r e h k = h (sign_of_same r q Zero (back e).is k)

reciprocal_by_times : (n : ℤ) (k : ℕ) → ¬ (n ≡ pos 0) → Equals (product_of (record { num = n; less = k }) (reciprocal_by n k)) (whole (pos 1))
reciprocal_by_times (pos zero) k h = absurd (h refl)
reciprocal_by_times (pos (suc n)) k h = record { is = omega (arith, ints) }
reciprocal_by_times (negsuc n) k h = record { is = omega (arith, ints) }

pub times_reciprocal : (q : Fraction) → IsNonzero q → Equals (product_of q (reciprocal_of q)) (whole (pos 1))
times_reciprocal q h = reciprocal_by_times q.num q.less h

-- the rational function stands for the number at the point
pub record StandsFor (r : RationalFunction) (p : Values) (x : Fraction) : Type 0 where
  pub positive : 0 < r.top.below
  pub nonzero : IsNonzero (polynomial_at r.bottom p)
  pub value : Equals (product_of x (polynomial_at r.bottom p)) (quotient_at r.top p)

-- what is written as a fraction stands for what that fraction is
pub fraction_stands : (top : Quotient) (bottom : List Monomial) (r : RationalFunction) (p : Values) (x : Fraction) → 0 < top.below
    → IsFractionOf top bottom r → IsNonzero (polynomial_at bottom p) → Equals (product_of x (polynomial_at bottom p)) (quotient_at top p)
    → StandsFor r p x
fraction_stands top bottom r p x some is h k =
    let same = value_of_same r.bottom bottom p is.bottom_is.same in record {
      positive = is.top_is.lowest.positive;
      nonzero = nonzero_same (polynomial_at bottom p) (polynomial_at r.bottom p) (back same) h;
      value = along (products (itself x) same) (along k (back (lowest_value top r.top p some is.top_is)));
    }

-- a polynomial over 1
pub one_value : (p : Values) → Equals (polynomial_at one p) (whole (pos 1))
one_value p = constant_value (pos 1) p

one_nonzero : (p : Values) → IsNonzero (polynomial_at one p)
one_nonzero p = nonzero_same (whole (pos 1)) (polynomial_at one p) (back (one_value p)) (λ e. absurd (omega (arith, ints, e)))

pub over_one_stands : (top : Quotient) (r : RationalFunction) (p : Values) (x : Fraction) → 0 < top.below → IsFractionOf top one r
    → Equals x (quotient_at top p) → StandsFor r p x
over_one_stands top r p x some is h =
    fraction_stands top one r p x some is (one_nonzero p) (along (products (itself x) (one_value p)) (along (exact (times_one x)) h))

-- the value of a top times a polynomial, and of a product of bottoms
pub times_value : (q : Quotient) (P : List Monomial) (p : Values) → 0 < q.below
    → Equals (quotient_at (times q P) p) (product_of (quotient_at q p) (polynomial_at P p))
times_value q P p h =
    along (product_quotient q (over P 1) p h (omega arith)) (products (itself (quotient_at q p)) (exact (over_one (polynomial_at P p))))

pub bottoms_nonzero : (P Q : List Monomial) (p : Values) → IsNonzero (polynomial_at P p) → IsNonzero (polynomial_at Q p)
    → IsNonzero (polynomial_at (polynomial_product P Q) p)
bottoms_nonzero P Q p h k =
    nonzero_same (product_of (polynomial_at P p) (polynomial_at Q p)) (polynomial_at (polynomial_product P Q) p) (back (value_of_product P Q p))
    (nonzero_product (polynomial_at P p) (polynomial_at Q p) h k)

-- sums and differences alike
pub record IsSumLike (op : Quotient → Quotient → Quotient) (plus : Fraction → Fraction → Fraction) : Type 0 where
  pub positive : (a b : Quotient) → 0 < a.below → 0 < b.below → 0 < (op a b).below
  pub value : (a b : Quotient) (p : Values) → 0 < a.below → 0 < b.below → Equals (quotient_at (op a b) p) (plus (quotient_at a p) (quotient_at b p))
  pub respects : (q p r s : Fraction) → Equals q p → Equals r s → Equals (plus q r) (plus p s)
  pub multiplied : (x y z : Fraction) → Equals (product_of (plus x y) z) (plus (product_of x z) (product_of y z))

pub sum_is_sum_like : IsSumLike sum_of_quotients sum_of
sum_is_sum_like = record {
  positive = λ a b h k. times_positive a.below b.below h k;
  value = sum_quotient;
  respects = λ q p r s h k. sums h k;
  multiplied = λ x y z. back (sum_times_is x y z);
}

pub difference_is_sum_like : IsSumLike difference_of_quotients difference_of
difference_is_sum_like = record {
  positive = λ a b h k. times_positive a.below b.below h k;
  value = difference_quotient;
  respects = λ q p r s h k.
      along (exact (difference-is q r)) (along (sums h (opposites r s k)) (exact (sym (difference-is p s))));
  multiplied = λ x y z.
      along (exact (ap (λ (w : Fraction). product_of w z) (difference-is x y)))
      (along (back (sum_times_is x (opposite_of y) z))
      (along (sums (itself (product_of x z)) (exact (sym (opposite-product y z)))) (exact (sym (difference-is (product_of x z) (product_of y z))))));
}

module _ (op : Quotient → Quotient → Quotient) (plus : Fraction → Fraction → Fraction) (like : IsSumLike op plus) (a b r : RationalFunction) (p : Values)
    (x y : Fraction) (h : StandsFor a p x) (k : StandsFor b p y) where
  common_stands : IsOverCommon op a b r → StandsFor r p (plus x y)
  common_stands is =
      let same : product_of y (polynomial_at a.bottom p) ≡ product_of y (polynomial_at b.bottom p) =
      ap (λ (P : List Monomial). product_of y (polynomial_at P p)) is.common in
      fraction_stands (op a.top b.top) a.bottom r p (plus x y) (like.positive a.top b.top h.positive k.positive) is.whole h.nonzero
      (along (like.multiplied x y (polynomial_at a.bottom p))
      (along (like.respects _ _ _ _ h.value (along (exact same) k.value)) (back (like.value a.top b.top p h.positive k.positive))))

  both_stand : IsOverBoth op a b r → StandsFor r p (plus x y)
  both_stand is =
      let A : Fraction = polynomial_at a.bottom p in
      let B : Fraction = polynomial_at b.bottom p in
      let first : Equals (product_of x (product_of A B)) (quotient_at is.first p) =
      along (exact (sym (product_assoc x A B)))
      (along (products h.value (itself B))
      (back (along (lowest_value (times a.top b.bottom) is.first p (times_positive a.top.below 1 h.positive (omega arith)) is.first_is)
      (times_value a.top b.bottom p h.positive)))) in
      let second : Equals (product_of y (product_of A B)) (quotient_at is.second p) =
      along (exact (ap (product_of y) (product-swap A B) ∙ sym (product_assoc y B A)))
      (along (products k.value (itself A))
      (back (along (lowest_value (times b.top a.bottom) is.second p (times_positive b.top.below 1 k.positive (omega arith)) is.second_is)
      (times_value b.top a.bottom p k.positive)))) in
      fraction_stands (op is.first is.second) (polynomial_product a.bottom b.bottom) r p (plus x y)
      (like.positive is.first is.second is.first_is.lowest.positive is.second_is.lowest.positive) is.whole
      (bottoms_nonzero a.bottom b.bottom p h.nonzero k.nonzero)
      (along (products (itself (plus x y)) (value_of_product a.bottom b.bottom p))
      (along (like.multiplied x y (product_of A B))
      (along (like.respects _ _ _ _ first second)
      (back (like.value is.first is.second p is.first_is.lowest.positive is.second_is.lowest.positive)))))

  pub join_stands : IsJoinOf op a b r → StandsFor r p (plus x y)
  join_stands (inl is) = common_stands is
  join_stands (inr is) = both_stand is

pub opposite_stands : (a r : RationalFunction) (p : Values) (x : Fraction) → StandsFor a p x → IsOppositeOf a r → StandsFor r p (opposite_of x)
opposite_stands a r p x h is =
    fraction_stands (opposite_of_quotient a.top) a.bottom r p (opposite_of x) (times_positive 1 a.top.below (omega arith) h.positive) is h.nonzero
    (along (exact (sym (opposite-product x (polynomial_at a.bottom p))))
    (along (opposites _ _ h.value) (back (opposite_quotient a.top p h.positive))))

pub product_stands : (a b r : RationalFunction) (p : Values) (x y : Fraction) → StandsFor a p x → StandsFor b p y → IsProductOf a b r
    → StandsFor r p (product_of x y)
product_stands a b r p x y h k is =
    let A : Fraction = polynomial_at a.bottom p in
    let B : Fraction = polynomial_at b.bottom p in
    fraction_stands (product_of_quotients a.top b.top) (polynomial_product a.bottom b.bottom) r p (product_of x y)
    (times_positive a.top.below b.top.below h.positive k.positive) is (bottoms_nonzero a.bottom b.bottom p h.nonzero k.nonzero)
    (along (products (itself (product_of x y)) (value_of_product a.bottom b.bottom p))
    (along (exact (product_middle_swap x y A B))
    (along (products h.value k.value) (back (product_quotient a.top b.top p h.positive k.positive)))))

pub power_stands : (a r : RationalFunction) (k : ℕ) (p : Values) (x : Fraction) → StandsFor a p x → IsPowerOf a k r → StandsFor r p (power_of x k)
power_stands a r zero p x h is =
    over_one_stands (over one 1) r p (whole (pos 1)) (omega arith) is (back (along (exact (over_one (polynomial_at one p))) (one_value p)))
power_stands a r (suc k) p x h is = product_stands is.0 a r p (power_of x k) x (power_stands a is.0 k p x h is.1) h is.2
