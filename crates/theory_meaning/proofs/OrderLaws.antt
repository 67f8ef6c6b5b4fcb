-- The order of fractions, from the order of whole numbers, which a positive factor keeps.
use Rattle.std.proofs.Common.{◌≡◌, ◌+◌, ℤ, pos, negsuc, ◌+ℤ◌, ◌*ℤ◌, ◌<ℤ◌, refl, sym, ap, ap₂, ◌∙◌, subst, arith, Bool, true, false, ◌⊎◌, inl, inr, ⊎_elim, unsigned_abs}
use Rattle.std.proofs.lemmas.Bool.{both_ways, cases_Bool}
use Rattle.std.proofs.lemmas.Int.{ints}
use Rattle.std.specs.Prelude.{int_lt}
use Rattle.std.specs.Ordering.{int_eq}
use Rattle.theory_meaning.specs.Fraction.{Fraction, den, cross, whole, IsSame, IsBelow, same, below}
use Rattle.theory_meaning.proofs.WholeLaws.{Scales, int_lt_scales, int_gt_scales, int_eq_scales, times-swap, sum-times, lt_scaled, lt_from_test, test_from_lt}

-- the tests and the facts that they decide
pub below_from_fact : (q r : Fraction) → IsBelow q r → below q r ≡ true
below_from_fact q r h = test_from_lt (cross q r) (cross r q) h

pub fact_from_below : (q r : Fraction) → below q r ≡ true → IsBelow q r
fact_from_below q r h = lt_from_test (cross q r) (cross r q) h

pub same_from_fact : (q r : Fraction) → IsSame q r → same q r ≡ true
same_from_fact q r h = grind (arith, ints)

pub fact_from_same : (q r : Fraction) → same q r ≡ true → IsSame q r
fact_from_same q r h = grind (arith, ints)

-- a fraction isn't below itself
pub below_itself : (q : Fraction) → below q q ≡ false
below_itself q = grind (arith, ints)

-- not both are below the other
pub below_turned : (q r : Fraction) → below q r ≡ true → below r q ≡ false
below_turned q r h = grind (arith, ints)

-- neither is below the other only where both are the same
pub same_from_neither : (q r : Fraction) → below q r ≡ false → below r q ≡ false → IsSame q r
same_from_neither q r h k = grind (arith, ints)

-- a comparison that a positive factor doesn't change respects sameness on the left
pub respects_left : (test : ℤ → ℤ → Bool) → Scales test → (q p r : Fraction) → IsSame q p
    → test (cross q r) (cross r q) ≡ test (cross p r) (cross r p)
respects_left test scales q p r e =
    let left : cross q r *ℤ pos (den p) ≡ cross p r *ℤ pos (den q) =
    times-swap q.num (pos (den r)) (pos (den p)) ∙ ap (λ z. z *ℤ pos (den r)) e ∙ times-swap p.num (pos (den q)) (pos (den r)) in
    let right : cross r q *ℤ pos (den p) ≡ cross r p *ℤ pos (den q) = times-swap r.num (pos (den q)) (pos (den p)) in
    sym (scales (cross q r) (cross r q) p.less) ∙ ap₂ test left right ∙ scales (cross p r) (cross r p) q.less

-- the order respects sameness, on either side and on both
pub below_left : (q p r : Fraction) → IsSame q p → below q r ≡ below p r
below_left q p r e = respects_left int_lt int_lt_scales q p r e

pub below_right : (q p r : Fraction) → IsSame q p → below r q ≡ below r p
below_right q p r e = respects_left (λ a b. int_lt b a) int_gt_scales q p r e

pub below_both : (q p r s : Fraction) → IsSame q p → IsSame r s → below q r ≡ below p s
below_both q p r s e f = below_left q p r e ∙ below_right r s p f

-- so does sameness
pub same_left : (q p r : Fraction) → IsSame q p → same q r ≡ same p r
same_left q p r e = respects_left int_eq int_eq_scales q p r e

pub same_right : (q p r : Fraction) → IsSame q p → same r q ≡ same r p
same_right q p r e = respects_left (λ a b. int_eq b a) (λ a b n. int_eq_scales b a n) q p r e

pub same_both : (q p r s : Fraction) → IsSame q p → IsSame r s → same q r ≡ same p s
same_both q p r s e f = same_left q p r e ∙ same_right r s p f

-- sameness is an equivalence
pub same_itself : (q : Fraction) → IsSame q q
same_itself q = refl

pub same_turned : (q r : Fraction) → IsSame q r → IsSame r q
same_turned q r e = sym e

pub same_trans : (q r s : Fraction) → IsSame q r → IsSame r s → IsSame q s
same_trans q r s e f = fact_from_same q s (same_left q r s e ∙ same_from_fact r s f)

-- equal fractions may stand in the place of each other
pub same_along : (q p r s : Fraction) → q ≡ p → r ≡ s → IsSame p s → IsSame q r
same_along q p r s e f h = subst (λ z. IsSame z r) (sym e) (subst (IsSame p) (sym f) h)

-- the order is transitive
pub below_trans : (q r s : Fraction) → below q r ≡ true → below r s ≡ true → below q s ≡ true
below_trans q r s h k =
    let low : (q.num *ℤ pos (den r) *ℤ pos (den s)) <ℤ (r.num *ℤ pos (den q) *ℤ pos (den s)) = lt_scaled _ _ s.less (fact_from_below q r h) in
    let high : (r.num *ℤ pos (den s) *ℤ pos (den q)) <ℤ (s.num *ℤ pos (den r) *ℤ pos (den q)) = lt_scaled _ _ q.less (fact_from_below r s k) in
    let under = times-swap q.num (pos (den r)) (pos (den s)) in
    let between = times-swap r.num (pos (den q)) (pos (den s)) in
    let over = times-swap s.num (pos (den r)) (pos (den q)) in
    let both : (cross q s *ℤ pos (den r)) <ℤ (cross s q *ℤ pos (den r)) = omega (arith, ints, under, between, over) in
    sym (int_lt_scales (cross q s) (cross s q) r.less) ∙ test_from_lt _ _ both

-- what isn't below is the same or above
pub below_or_same : (q r : Fraction) → below q r ≡ false → (below r q ≡ true) ⊎ IsSame q r
below_or_same q r h = ⊎_elim inl (λ k. inr (same_from_neither q r h k)) (cases_Bool (below r q))

-- what isn't above the lesser of two isn't above the greater
pub below_at_most : (q r s : Fraction) → below q r ≡ true → below s r ≡ false → below q s ≡ true
below_at_most q r s h k = ⊎_elim (λ above. below_trans q r s h above) (λ e. below_right s r q e ∙ h) (below_or_same s r k)

-- the same as facts: exactly one of below, same and above is true
pub order_trans : (q r s : Fraction) → IsBelow q r → IsBelow r s → IsBelow q s
order_trans q r s h k = fact_from_below q s (below_trans q r s (below_from_fact q r h) (below_from_fact r s k))

pub order_irreflexive : (q : Fraction) → ¬ IsBelow q q
order_irreflexive q h = both_ways (below q q) (below_itself q) (below_from_fact q q h)

pub order_total : (q r : Fraction) → IsBelow q r ⊎ (IsSame q r ⊎ IsBelow r q)
order_total q r =
    ⊎_elim (λ h. inl (fact_from_below q r h))
    (λ h. inr (⊎_elim (λ above. inr (fact_from_below r q above)) inl (below_or_same q r h)))
    (cases_Bool (below q r))

pub order_apart : (q r : Fraction) → IsBelow q r → ¬ IsSame q r
order_apart q r h e = both_ways (below q r) (below_left q r r e ∙ below_itself r) (below_from_fact q r h)

pub order_one_way : (q r : Fraction) → IsBelow q r → ¬ IsBelow r q
order_one_way q r h k = both_ways (below r q) (below_turned q r (below_from_fact q r h)) (below_from_fact r q k)

-- and either side may be written otherwise
pub order_left : (q p r : Fraction) → IsSame q p → IsBelow q r → IsBelow p r
order_left q p r e h = fact_from_below p r (sym (below_left q p r e) ∙ below_from_fact q r h)

pub order_right : (q p r : Fraction) → IsSame q p → IsBelow r q → IsBelow r p
order_right q p r e h = fact_from_below r p (sym (below_right q p r e) ∙ below_from_fact r q h)

-- a fraction between two others
pub mediant : Fraction → Fraction → Fraction
mediant q r = record { num = q.num +ℤ r.num; less = q.less + den r }

pub below_mediant : (q r : Fraction) → IsBelow q r → IsBelow q (mediant q r)
unfolding mediant
below_mediant q r h = rw (sum-times q.num r.num (pos (den q))) (omega (arith, ints))

pub mediant_below : (q r : Fraction) → IsBelow q r → IsBelow (mediant q r) r
unfolding mediant
mediant_below q r h = rw (sum-times q.num r.num (pos (den r))) (omega (arith, ints))

-- a whole number below and one above
pub whole_below : (q : Fraction) → IsBelow (whole (negsuc (unsigned_abs q.num))) q
whole_below q = grind (arith, ints)

pub whole_above : (q : Fraction) → IsBelow q (whole (pos (unsigned_abs q.num + 1)))
whole_above q = grind (arith, ints)
