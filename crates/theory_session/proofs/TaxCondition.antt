-- The condition of the tax model says the same as the shorter one: where demand falls and supply rises, the gap is below 0.
use Rattle.std.proofs.Common.{◌≡◌, pos, ◌*ℤ◌, ◌<ℤ◌, Bool, true, false, not, ◌&&◌, ◌||◌, refl, arith, codes}
use Rattle.std.proofs.lemmas.Bool.{both_ways}
use Rattle.std.proofs.lemmas.Int.{ints}
use Rattle.theory_meaning.specs.Fraction.{Fraction, whole, den, below, difference_of, sum_of, IsBelow}
use Rattle.theory_meaning.specs.Point.{Point, value_at}
use Rattle.theory_meaning.specs.Truth.{truth_of}
use Rattle.theory_meaning.proofs.OrderLaws.{below_from_fact, fact_from_below, below_turned}
use Rattle.theory_meaning.proofs.WholeLaws.{lt_scaled}
use Rattle.theory_session.specs.WorkedCondition.{printed_condition, short_condition}

-- 0
abbrev zero : Fraction
zero = whole (pos 0)

-- a negative number less a positive one is negative
negative_gap : (a b : Fraction) → below a zero ≡ true → below zero b ≡ true → below (difference_of a b) zero ≡ true
negative_gap a b h k =
    let low : IsBelow a zero = fact_from_below a zero h in
    let high : IsBelow zero b = fact_from_below zero b k in
    let falls : a.num <ℤ pos 0 = omega (arith, ints, low) in
    let rises : pos 0 <ℤ b.num = omega (arith, ints, high) in
    let first : (a.num *ℤ pos (den b)) <ℤ (pos 0 *ℤ pos (den b)) = lt_scaled a.num (pos 0) b.less falls in
    let second : (pos 0 *ℤ pos (den a)) <ℤ (b.num *ℤ pos (den a)) = lt_scaled (pos 0) b.num a.less rises in
    let gap : IsBelow (difference_of a b) zero = omega (arith, ints, first, second) in
    below_from_fact (difference_of a b) zero gap

-- of two parts with the gap on either side of 0, the one of a negative gap says nothing
one_part : (above under demand supply minus plus : Bool) → (demand ≡ true → supply ≡ true → (above ≡ false) × (under ≡ true))
    → ((not above || (not demand || (not supply || (minus || false)))) && ((not under || (not demand || (not supply || (plus || false)))) && true))
    ≡ (not demand || (not supply || (plus || false)))
one_part true true false supply minus plus h = refl
one_part true false false supply minus plus h = refl
one_part false true false supply minus plus h = refl
one_part false false false supply minus plus h = refl
one_part true true true false minus plus h = refl
one_part true false true false minus plus h = refl
one_part false true true false minus plus h = refl
one_part false false true false minus plus h = refl
one_part above under true true minus plus h = last above under (h refl refl).0 (h refl refl).1 plus
  where
    last : (above under : Bool) → above ≡ false → under ≡ true → (plus : Bool)
        → ((not above || (minus || false)) && ((not under || (plus || false)) && true)) ≡ (plus || false)
    last true under e f plus = absurd (both_ways true e refl)
    last false false e f plus = absurd (both_ways false refl f)
    last false true e f true = refl
    last false true e f false = refl

pub same_condition : (p : Point) → truth_of printed_condition p ≡ truth_of short_condition p
same_condition p =
    let a = value_at p (codes "D.p") in
    let b = value_at p (codes "S.r") in
    one_part (below zero (difference_of a b)) (below (difference_of a b) zero) (below a zero) (below zero b) (below (sum_of a b) zero) (below zero (sum_of a b))
    (λ h k. let gap = negative_gap a b h k in (below_turned (difference_of a b) zero gap, gap))
