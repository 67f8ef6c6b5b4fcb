-- A fraction over one that isn't 0, by their cross products.
use Rattle.std.proofs.Common.{◌≡◌, ◌≢◌, ℕ, zero, suc, ◌+◌, ◌*◌, ℤ, pos, negsuc, ◌*ℤ◌, neg_ℤ, Option, Some, None, MatchOption, IfSome, refl, sym, ap, ◌∙◌, arith}
use Rattle.std.proofs.lemmas.Int.{ints}
use Rattle.theory_meaning.specs.Fraction.{Fraction, den, IsSame, product_of, reciprocal_by, quotient_of}
use Rattle.theory_meaning.specs.Limits.{IsWide}
use Rattle.theory_meaning.proofs.ValueLaws.{den-over_both}
use Rattle.theory_meaning.proofs.WholeLaws.{up-times, down-times, up-neg, down-neg}
use Rattle.theory_points.specs.Parts.{IsKept, IsQuotient, IsWideQuotient}
use borrow.Author.Differences.{same_in}

-- a minus changes sides
minus_left : (a b : ℤ) → neg_ℤ a ≡ b → a ≡ neg_ℤ b
minus_left a b e = omega (arith, ints, e)

minus_right : (a b : ℤ) → a ≡ neg_ℤ b → neg_ℤ a ≡ b
minus_right a b e = omega (arith, ints, e)

-- a minus of the divisor is one of the product
minus_below : (f : ℤ) (n k : ℕ) → f *ℤ (negsuc n *ℤ pos k) ≡ neg_ℤ (f *ℤ pos (k * (n + 1)))
minus_below f n k = same_in _ _ (simp (up-times, down-times, up-neg, down-neg) (omega arith))

minus_above : (a : ℤ) (l d : ℕ) → a *ℤ negsuc l *ℤ pos d ≡ neg_ℤ (a *ℤ pos (l + 1) *ℤ pos d)
minus_above a l d = same_in _ _ (simp (up-times, down-times, up-neg, down-neg) (omega arith))

-- the quotient of two cross products, by the divisor's numerator and its denominator less one
abbrev IsOver : Fraction → Fraction → ℤ → ℕ → Type 0
IsOver f q m l = f.num *ℤ (m *ℤ pos (den q)) ≡ q.num *ℤ pos (l + 1) *ℤ pos (den f)

-- it is the quotient of the fractions
same_of_over : (f q : Fraction) (m : ℤ) (l : ℕ) → m ≢ pos 0 → IsOver f q m l → IsSame f (product_of q (reciprocal_by m l))
same_of_over f q (pos zero) l some e = absurd (some refl)
same_of_over f q (pos (suc n)) l some e = omega (arith, ints, e)
same_of_over f q (negsuc n) l some e =
    let below = ap (λ k. f.num *ℤ pos k) (den-over_both (q.num *ℤ negsuc l) q (reciprocal_by (negsuc n) l)) in
    let turned = minus_left (f.num *ℤ pos (den q * (n + 1))) (q.num *ℤ pos (l + 1) *ℤ pos (den f)) (sym (minus_below f.num n (den q)) ∙ e) in
    below ∙ turned ∙ sym (minus_above q.num l (den f))

-- and the other way round
over_of_same : (f q : Fraction) (m : ℤ) (l : ℕ) → m ≢ pos 0 → IsSame f (product_of q (reciprocal_by m l)) → IsOver f q m l
over_of_same f q (pos zero) l some e = absurd (some refl)
over_of_same f q (pos (suc n)) l some e = omega (arith, ints, e)
over_of_same f q (negsuc n) l some e =
    let below = ap (λ k. f.num *ℤ pos k) (den-over_both (q.num *ℤ negsuc l) q (reciprocal_by (negsuc n) l)) in
    let equal = sym below ∙ e ∙ minus_above q.num l (den f) in
    minus_below f.num n (den q) ∙ minus_right (f.num *ℤ pos (den q * (n + 1))) (q.num *ℤ pos (l + 1) *ℤ pos (den f)) equal

-- what isn't 0 has a product that isn't
some_product : (m : ℤ) (k : ℕ) → m ≢ pos 0 → m *ℤ pos (k + 1) ≢ pos 0
some_product (pos zero) k some e = absurd (some refl)
some_product (pos (suc n)) k some e = absurd (omega (arith, ints, e))
some_product (negsuc n) k some e = absurd (omega (arith, ints, e))

-- what is found of the cross products is found of the quotient
pub quotient_found : (q r : Fraction) (found : Option Fraction) → r.num ≢ pos 0
    → MatchOption found (IsWideQuotient (q.num *ℤ pos (den r)) (r.num *ℤ pos (den q))) (IsQuotient (q.num *ℤ pos (den r)) (r.num *ℤ pos (den q)))
    → IfSome found IsKept → MatchOption found (IsWide (quotient_of q r)) (λ f. IsSame f (quotient_of q r) × IsKept f)
quotient_found q r None some wide kept = λ s within same.
    wide s within (record { divides = some_product r.num q.less some; equal = over_of_same s q r.num r.less some same })
quotient_found q r (Some f) some is kept = (same_of_over f q r.num r.less some is.equal, kept)
