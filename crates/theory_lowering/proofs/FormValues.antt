-- The form of an expression stands for its value, where none of its divisors is 0.
use Rattle.std.proofs.Common.{◌≡◌, ◌≤◌, pos, Bool, true, false, not, List, [], ◌∷◌, ◌++◌, length, refl, sym, ap, ◌∙◌, arith}
use Rattle.std.specs.Prelude.{◌&&◌}
use Rattle.std.proofs.lemmas.Int.{ints}
use Rattle.theory_meaning.specs.Divisors.{divisors_of_expr}
use Rattle.theory_meaning.specs.Fraction.{Fraction, den, whole, IsSame, same, sum_of, difference_of}
use Rattle.theory_meaning.specs.Point.{Name, Point}
use Rattle.theory_meaning.specs.Tree.{Expr, number, symbol, sum, difference, opposite, product, power, quotient}
use Rattle.theory_meaning.specs.Truth.{value_of, are_nonzero}
use Rattle.theory_meaning.proofs.FractionLaws.{exact, back, along, products}
use Rattle.theory_polynomial.specs.Polynomial.{constant_of, symbol_of}
use Rattle.theory_polynomial.specs.PolynomialValue.{Values, symbol_at, polynomial_at}
use Rattle.theory_polynomial.specs.RationalPolynomial.{sum_of_quotients, difference_of_quotients}
use Rattle.theory_lowering.specs.RationalFunction.{RationalFunction, over}
use Rattle.theory_lowering.specs.Lowered.{place_of, values_of, IsFormOf}
use Rattle.theory_lowering.specs.LoweringLimits.{IsListedExpr}
use Rattle.theory_lowering.proofs.QuotientValues.{itself, inverse, symbol_value, symbol_at_place, constant_value, over_den, over_one}
use Rattle.theory_lowering.proofs.RationalValues.{IsNonzero, StandsFor, over_one_stands, sum_is_sum_like, difference_is_sum_like, join_stands, opposite_stands, product_stands, power_stands}
use Rattle.theory_lowering.proofs.DividedValues.{quotient_stands}

-- the parts of two facts in one test
pub both_true : (a b : Bool) → (a && b) ≡ true → (a ≡ true) × (b ≡ true)
both_true true b h = (refl, h)
both_true false b h = cc

pub both_assoc : (a b c : Bool) → a && (b && c) ≡ (a && b) && c
both_assoc true b c = refl
both_assoc false b c = refl

pub are_nonzero-append : (vs ws : List Expr) (p : Point) → are_nonzero (vs ++ ws) p ≡ are_nonzero vs p && are_nonzero ws p
are_nonzero-append [] ws p = refl
are_nonzero-append (v ∷ vs) ws p =
    ap (λ (b : Bool). not (same (value_of v p) (whole (pos 0))) && b) (are_nonzero-append vs ws p)
    ∙ both_assoc (not (same (value_of v p) (whole (pos 0)))) (are_nonzero vs p) (are_nonzero ws p)

-- none of two lists is 0 exactly where none of each is
pub each_nonzero : (vs ws : List Expr) (p : Point) → are_nonzero (vs ++ ws) p ≡ true → (are_nonzero vs p ≡ true) × (are_nonzero ws p ≡ true)
each_nonzero vs ws p h = both_true (are_nonzero vs p) (are_nonzero ws p) (sym (are_nonzero-append vs ws p) ∙ h)

-- a number that isn't 0
pub nonzero_from_test : (q : Fraction) → not (same q (whole (pos 0))) ≡ true → IsNonzero q
nonzero_from_test q h e = absurd (grind (arith, ints, h, e))

module _ (ns : List Name) (p : Point) (few : length ns ≤ 32) where
  pub form_stands : (e : Expr) (r : RationalFunction) → IsListedExpr ns e → are_nonzero (divisors_of_expr e) p ≡ true → IsFormOf ns e r
      → StandsFor r (values_of ns p) (value_of e p)
  form_stands (number q) r l d is =
      over_one_stands (over (constant_of q.num) (den q)) r (values_of ns p) q (omega arith) is
      (back (along (products (constant_value q.num (values_of ns p)) (itself (inverse (den q)))) (exact (over_den q))))
  form_stands (symbol x) r l d is =
      let v : Values = values_of ns p in
      over_one_stands (over (symbol_of (place_of x ns)) 1) r v (value_of (symbol x) p) (omega arith) is
      (back (along (products (symbol_value (place_of x ns) v (omega (arith, few, l))) (itself (inverse 1)))
      (exact (over_one (symbol_at (place_of x ns) v) ∙ symbol_at_place x ns p l))))
  form_stands (sum u w) r l d is =
      let each = each_nonzero (divisors_of_expr u) (divisors_of_expr w) p d in
      join_stands sum_of_quotients sum_of sum_is_sum_like is.0 is.1 r (values_of ns p) (value_of u p) (value_of w p)
      (form_stands u is.0 l.0 each.0 is.2) (form_stands w is.1 l.1 each.1 is.3) is.4
  form_stands (difference u w) r l d is =
      let each = each_nonzero (divisors_of_expr u) (divisors_of_expr w) p d in
      join_stands difference_of_quotients difference_of difference_is_sum_like is.0 is.1 r (values_of ns p) (value_of u p) (value_of w p)
      (form_stands u is.0 l.0 each.0 is.2) (form_stands w is.1 l.1 each.1 is.3) is.4
  form_stands (opposite u) r l d is =
      opposite_stands is.0 r (values_of ns p) (value_of u p) (form_stands u is.0 l d is.1) is.2
  form_stands (product u w) r l d is =
      let each = each_nonzero (divisors_of_expr u) (divisors_of_expr w) p d in
      product_stands is.0 is.1 r (values_of ns p) (value_of u p) (value_of w p)
      (form_stands u is.0 l.0 each.0 is.2) (form_stands w is.1 l.1 each.1 is.3) is.4
  form_stands (power u k) r l d is =
      power_stands is.0 r k (values_of ns p) (value_of u p) (form_stands u is.0 l d is.1) is.2
  form_stands (quotient u w) r l d is =
      let each = each_nonzero (divisors_of_expr u) (w ∷ divisors_of_expr w) p d in
      let own = both_true (not (same (value_of w p) (whole (pos 0)))) (are_nonzero (divisors_of_expr w) p) each.1 in
      quotient_stands is.0 is.1 r (values_of ns p) (value_of u p) (value_of w p)
      (form_stands u is.0 l.0 each.0 is.2) (form_stands w is.1 l.1 own.1 is.3) (nonzero_from_test (value_of w p) own.0) is.4

  pub form_bottom_nonzero : (e : Expr) (r : RationalFunction) → IsListedExpr ns e → are_nonzero (divisors_of_expr e) p ≡ true → IsFormOf ns e r
      → ¬ IsSame (polynomial_at r.bottom (values_of ns p)) (whole (pos 0))
  form_bottom_nonzero e r l d is same = (form_stands e r l d is).nonzero (omega (arith, ints, same))
