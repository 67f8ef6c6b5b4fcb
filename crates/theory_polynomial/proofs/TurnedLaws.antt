-- The canonical form keeps every sign, or turns every sign.
use Rattle.std.proofs.Common.{◌≡◌, ℕ, ℤ, pos, negsuc, neg_ℤ, ◌*ℤ◌, true, false, List, sym, ◌∙◌, arith}
use Rattle.std.specs.Prelude.{◌↔◌}
use Rattle.std.proofs.lemmas.Int.{ints}
use Rattle.theory_meaning.specs.declared.words.Sign.{Sign}
use Rattle.theory_meaning.specs.declared.words.Sign.TheVariants.{Minus, Zero, Plus}
use Rattle.theory_meaning.specs.Fraction.{Fraction, HasSign, opposite_of, opposite_sign}
use Rattle.theory_meaning.proofs.WholeLaws.{neg-times}
use Rattle.theory_polynomial.specs.Polynomial.{Monomial, coefficient_at, AreSame, IsCanonicalOf, scaled}
use Rattle.theory_polynomial.specs.PolynomialValue.{Values, polynomial_at, HasSignAt, HaveSameSign}
use Rattle.theory_polynomial.proofs.CoefficientLaws.{coefficient_at-scaled, same_turned}
use Rattle.theory_meaning.proofs.FractionLaws.{Equals, exact, back, along, sign_of_same, turned_times}
use Rattle.theory_polynomial.proofs.PolynomialValues.{value_of_scaled}
use Rattle.theory_polynomial.proofs.PrimitiveLaws.{primitive_has_same_sign, content_of_turned_back}

-- the sign of an opposite
opposite_has_sign : (q : Fraction) (s : Sign) → HasSign (opposite_of q) s ↔ HasSign q (opposite_sign s)
opposite_has_sign q Minus = (λ h. omega (arith, ints, h), λ h. omega (arith, ints, h))
opposite_has_sign q Zero = (λ h. omega (arith, ints, h), λ h. omega (arith, ints, h))
opposite_has_sign q Plus = (λ h. omega (arith, ints, h), λ h. omega (arith, ints, h))

-- the value of a turned sum of terms
turned_value : (ts : List Monomial) (p : Values) → Equals (polynomial_at (scaled (negsuc 0) ts) p) (opposite_of (polynomial_at ts p))
turned_value ts p = along (value_of_scaled (negsuc 0) ts p) (exact (turned_times (polynomial_at ts p)))

-- and its sign
pub turned_has_sign : (ts : List Monomial) (p : Values) (s : Sign) → HasSignAt p (scaled (negsuc 0) ts) s ↔ HasSignAt p ts (opposite_sign s)
turned_has_sign ts p s =
    let turned = opposite_has_sign (polynomial_at ts p) s in
    (λ h. turned.0 (sign_of_same _ _ s (turned_value ts p).is h), λ h. sign_of_same _ _ s (back (turned_value ts p)).is (turned.1 h))

pub canonical_kept : (ts r : List Monomial) → IsCanonicalOf ts false r → HaveSameSign r ts
canonical_kept ts r h =
    primitive_has_same_sign ts r (h.content, h.is_content, h.canonical.ordered, same_turned ts (scaled (pos h.content) r) h.same)

-- a negative content goes to the other side
other_side : (g : ℕ) (a b : ℤ) → b ≡ neg_ℤ (pos g) *ℤ a → pos g *ℤ a ≡ negsuc 0 *ℤ b
other_side g a b h = let e = neg-times (pos g) a in omega (arith, ints, h, e)

same_turned_over : (ts r : List Monomial) (g : ℕ) → AreSame ts (scaled (neg_ℤ (pos g)) r) → AreSame (scaled (pos g) r) (scaled (negsuc 0) ts)
same_turned_over ts r g h = record {
  at = λ e.
      coefficient_at-scaled (pos g) r e
      ∙ other_side g (coefficient_at r e) (coefficient_at ts e) (h.at e ∙ coefficient_at-scaled (neg_ℤ (pos g)) r e)
      ∙ sym (coefficient_at-scaled (negsuc 0) ts e);
}

pub canonical_turned : (ts r : List Monomial) (p : Values) (s : Sign) → IsCanonicalOf ts true r → HasSignAt p r s ↔ HasSignAt p ts (opposite_sign s)
canonical_turned ts r p s h =
    let kept = primitive_has_same_sign (scaled (negsuc 0) ts) r
    (h.content, content_of_turned_back ts h.content h.is_content, h.canonical.ordered, same_turned_over ts r h.content h.same) p s in
    let turned = turned_has_sign ts p s in
    (λ k. turned.0 (kept.0 k), λ k. kept.1 (turned.1 k))
