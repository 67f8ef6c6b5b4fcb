use Rattle.std.proofs.Common.{◌≡◌, ◌*◌, ◌^◌, ◌-ℤ◌, pos, neg_ℤ, w64, unsigned_abs, ap₂, ◌∙◌, arith}
use Rattle.std.proofs.lemmas.Int.{ints}
use mir.Val.{to_z, of_z}
use Rattle.theory_polynomial.specs.Polynomial.{AreSame}
use Rattle.theory_polynomial.specs.RationalPolynomial.{difference_of_quotients}
use Rattle.theory_poly.proofs.QuotientSums.{top_of_difference, answers_lowest, answers_lowest_wide}
use Rattle.theory_poly.proofs.rat_poly.RatPoly.sub.Goals as goal

-- what was gathered, and the number below it
top_is : (c : goal.After-drop-all) → AreSame c.deref.result.now (difference_of_quotients c.args.self.now c.args.other.now).top
top_is c =
    let n_is : to_z w64 (of_z w64 c.below-second.result) ≡ pos c.args.other.now.below = omega
    (arith, ints, c.below-second.ensures.value, c.below-second.ensures.kept.within.below) in
    let m_is : to_z w64 (of_z w64 (pos 0 -ℤ to_z w64 (of_z w64 c.below-first.result))) ≡ neg_ℤ (pos c.args.self.now.below) = omega
    (arith, ints, c.below-first.ensures.value, c.below-first.ensures.kept.within.below) in
    top_of_difference c.args.self.now c.args.other.now (to_z w64 (of_z w64 c.below-second.result))
    (to_z w64 (of_z w64 (pos 0 -ℤ to_z w64 (of_z w64 c.below-first.result)))) c.as_slice.result.now c.as_slice-2.result.now
    c.in_ok-all.all.items c.deref.result.now (2 ^ 117) n_is m_is (c.as_slice.ensures.value ∙ c.top.ensures.value)
    (c.as_slice-2.ensures.value ∙ c.top-2.ensures.value)
    c.in_ok-all.ensures c.deref.ensures.value

below_is : (c : goal.After-drop-all) → c.product_below.result ≡ c.args.self.now.below * c.args.other.now.below
below_is c =
    let first : unsigned_abs (to_z w64 (of_z w64 c.below-first.result)) ≡ c.args.self.now.below = omega
    (arith, ints, c.below-first.ensures.value, c.below-first.ensures.kept.within.below) in
    let second : unsigned_abs (to_z w64 (of_z w64 c.below-second.result)) ≡ c.args.other.now.below = omega
    (arith, ints, c.below-second.ensures.value, c.below-second.ensures.kept.within.below) in
    c.product_below.ensures.value ∙ ap₂ ◌*◌ first second

pub returns-clause-value : goal.returns-clause-value
returns-clause-value c =
    answers_lowest c.deref.result.now (difference_of_quotients c.args.self.now c.args.other.now).top c.product_below.result
    (c.args.self.now.below * c.args.other.now.below) c.lowest.result
    (top_is c) (below_is c) c.lowest.ensures.value

pub returns-clause-wide : goal.returns-clause-wide
returns-clause-wide c =
    answers_lowest_wide c.deref.result.now (difference_of_quotients c.args.self.now c.args.other.now).top c.product_below.result
    (c.args.self.now.below * c.args.other.now.below) c.lowest.result
    (top_is c) (below_is c) c.lowest.ensures.wide
