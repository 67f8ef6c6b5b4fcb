-- The sign of a cross product and of a restriction, and the value of a polynomial that is split.
use Rattle.std.proofs.Common.{◌++◌, pos, ℕ, List, refl, sym}
use Rattle.std.specs.Prelude.{◌↔◌}
use Rattle.theory_meaning.specs.declared.words.Sign.{Sign}
use Rattle.theory_meaning.specs.Fraction.{Fraction, HasSign, sum_of as fraction_sum, difference_of as fraction_difference, product_of as fraction_product}
use Rattle.theory_meaning.proofs.ValueLaws.{difference-is, opposite_respects}
use Rattle.theory_polynomial.specs.Polynomial.{Monomial, difference_of, product_of, cross_of, symbol_of, degree_in, IsPrimitiveOf, IsFreeOf, IsSplit, scaled}
use Rattle.theory_polynomial.specs.PolynomialValue.{Values, polynomial_at, HasSignAt, GivesValue, restriction_step, IsRestriction}
use Rattle.theory_meaning.proofs.FractionLaws.{Equals, exact, back, along, sums, sign_of_same}
use Rattle.theory_polynomial.proofs.PolynomialValues.{value_of_sum, value_of_product, value_of_same, value_of_difference}
use Rattle.theory_polynomial.proofs.PrimitiveLaws.{primitive_has_same_sign}
use Rattle.theory_polynomial.proofs.RestrictionLaws.{last_has_sign}
use Rattle.theory_polynomial.proofs.FreeLaws.{step_lacks, same_lacks, divided_lacks, lacks_is_free}

-- the value of a difference
pub difference_value : (ts us : List Monomial) (p : Values)
    → Equals (polynomial_at (difference_of ts us) p) (fraction_difference (polynomial_at ts p) (polynomial_at us p))
difference_value ts us p = along (value_of_difference ts us p) (exact (sym (difference-is (polynomial_at ts p) (polynomial_at us p))))

cross_value : (a b2 a2 b : List Monomial) (p : Values) → Equals (polynomial_at (cross_of a b2 a2 b) p)
    (fraction_difference (fraction_product (polynomial_at a p) (polynomial_at b2 p)) (fraction_product (polynomial_at a2 p) (polynomial_at b p)))
cross_value a b2 a2 b p =
    let second = value_of_product a2 b p in
    along (value_of_difference (product_of a b2) (product_of a2 b) p)
    (along (sums (value_of_product a b2 p) (record {
      is = opposite_respects (polynomial_at (product_of a2 b) p)
          (fraction_product (polynomial_at a2 p) (polynomial_at b p)) second.is;
    }))
    (exact (sym (difference-is (fraction_product (polynomial_at a p) (polynomial_at b2 p)) (fraction_product (polynomial_at a2 p) (polynomial_at b p))))))

-- the sign of what is left of a cross product
pub cross_sign : (a b2 a2 b r : List Monomial) (p : Values) (s : Sign) → IsPrimitiveOf (cross_of a b2 a2 b) r → HasSignAt p r s
    ↔ HasSign (fraction_difference (fraction_product (polynomial_at a p) (polynomial_at b2 p)) (fraction_product (polynomial_at a2 p) (polynomial_at b p))) s
cross_sign a b2 a2 b r p s h =
    let kept = primitive_has_same_sign (cross_of a b2 a2 b) r h p s in
    let value = cross_value a b2 a2 b p in
    (λ k. sign_of_same _ _ s value.is (kept.0 k), λ k. kept.1 (sign_of_same _ _ s (back value).is k))

-- a restriction is free of the symbol and keeps the sign
pub restriction_free : (x : ℕ) (q : Fraction) (ts r : List Monomial) → IsRestriction x q ts r → IsFreeOf x r
restriction_free x q ts r h =
    lacks_is_free x r h.2
    (divided_lacks x h.0 r h.1.positive
    (same_lacks x (restriction_step x q ts (degree_in x ts)) (scaled (pos h.0) r) h.3 (step_lacks x q ts (degree_in x ts))))

pub restriction_sign : (x : ℕ) (q : Fraction) (ts r : List Monomial) (p : Values) (s : Sign) → IsRestriction x q ts r → GivesValue x q p
    → HasSignAt p r s ↔ HasSignAt p ts s
restriction_sign x q ts r p s h gives =
    let first = primitive_has_same_sign (restriction_step x q ts (degree_in x ts)) r h p s in
    let second = last_has_sign x q p ts s gives in
    (λ k. second.0 (first.0 k), λ k. first.1 (second.1 k))

-- the value of a polynomial that is split
pub split_value : (x : ℕ) (ts a b : List Monomial) (p : Values) → IsSplit x ts a b
    → Equals (polynomial_at ts p) (fraction_sum (fraction_product (polynomial_at a p) (polynomial_at (symbol_of x) p)) (polynomial_at b p))
split_value x ts a b p h =
    along (value_of_same ts (product_of a (symbol_of x) ++ b) p h.same)
    (along (value_of_sum (product_of a (symbol_of x)) b p) (sums (value_of_product a (symbol_of x) p) (exact {q = polynomial_at b p} refl)))
