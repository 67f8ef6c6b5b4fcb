-- Sums, differences, products and opposites of fractions: they respect sameness, and 0 and 1 are neutral.
use Rattle.std.proofs.Common.{◌≡◌, ℕ, zero, suc, ◌+◌, ◌*◌, ℤ, pos, negsuc, ◌+ℤ◌, ◌*ℤ◌, neg_ℤ, refl, sym, ap, ap₂, ◌∙◌, subst, arith}
use Rattle.std.proofs.lemmas.Int.{ints}
use Rattle.std.proofs.Math.IntN.{+ℤ_idl, +ℤ_comm, *ℤ_comm, neg_ℤ-+ℤ}
use Rattle.std.proofs.Math.Nat.{mul_comm}
use Rattle.theory_meaning.specs.Fraction.{Fraction, den, cross, whole, IsSame, over_both, sum_of, difference_of, product_of, opposite_of, power_of, reciprocal_by, reciprocal_of, quotient_of}
use Rattle.theory_meaning.proofs.WholeLaws.{up-times, down-times, sum-times, neg-times, flattened, times-swap}
use Rattle.theory_meaning.proofs.OrderLaws.{same_along}
use borrow.Author.Differences.{same_in}

-- the denominator of a sum or a product is the product of the two
pub den-over_both : (n : ℤ) (q r : Fraction) → den (over_both n q r) ≡ den q * den r
den-over_both n q r = omega arith

-- two fractions over products are the same where their cross products are
pub over_both_same : (m n : ℤ) (q r p s : Fraction) → m *ℤ pos (den p * den s) ≡ n *ℤ pos (den q * den r) → IsSame (over_both m q r) (over_both n p s)
over_both_same m n q r p s e =
    ap (λ (k : ℕ). m *ℤ pos k) (den-over_both n p s) ∙ e ∙ sym (ap (λ (k : ℕ). n *ℤ pos k) (den-over_both m q r))

-- the fraction with these parts
record_of : ℤ → ℕ → Fraction
record_of n k = record { num = n; less = k }

-- equal products, brought over the other denominators
brought : (a b : ℤ) (k l m n : ℕ) → a *ℤ pos l ≡ b *ℤ pos k → a *ℤ pos m *ℤ pos (l * n) ≡ b *ℤ pos n *ℤ pos (k * m)
brought a b k l m n e =
    let left : a *ℤ pos m *ℤ pos (l * n) ≡ a *ℤ pos l *ℤ pos (m * n) = same_in _ _ (simp (up-times, down-times) (omega arith)) in
    let right : b *ℤ pos k *ℤ pos (m * n) ≡ b *ℤ pos n *ℤ pos (k * m) = same_in _ _ (simp (up-times, down-times) (omega arith)) in
    left ∙ ap (λ z. z *ℤ pos (m * n)) e ∙ right

-- products of the tops, brought over the other denominators
multiplied : (a b c d : ℤ) (k l m n : ℕ) → a *ℤ pos l ≡ b *ℤ pos k → c *ℤ pos n ≡ d *ℤ pos m → a *ℤ c *ℤ pos (l * n) ≡ b *ℤ d *ℤ pos (k * m)
multiplied a b c d k l m n e f =
    let left : a *ℤ c *ℤ pos (l * n) ≡ (a *ℤ pos l) *ℤ (c *ℤ pos n) = same_in _ _ (simp (up-times, down-times) (omega arith)) in
    let right : (b *ℤ pos k) *ℤ (d *ℤ pos m) ≡ b *ℤ d *ℤ pos (k * m) = same_in _ _ (simp (up-times, down-times) (omega arith)) in
    left ∙ ap₂ ◌*ℤ◌ e f ∙ right

-- the four operations respect sameness
pub sum_respects : (q p r s : Fraction) → IsSame q p → IsSame r s → IsSame (sum_of q r) (sum_of p s)
sum_respects q p r s e f =
    over_both_same (cross q r +ℤ cross r q) (cross p s +ℤ cross s p) q r p s
    (rw (sum-times (cross q r) (cross r q) (pos (den p * den s)), sum-times (cross p s) (cross s p) (pos (den q * den r)))
    (ap₂ ◌+ℤ◌ (brought q.num p.num (den q) (den p) (den r) (den s) e)
    (rw (mul_comm (den p) (den s), mul_comm (den q) (den r)) (brought r.num s.num (den r) (den s) (den q) (den p) f))))

pub product_respects : (q p r s : Fraction) → IsSame q p → IsSame r s → IsSame (product_of q r) (product_of p s)
product_respects q p r s e f =
    over_both_same (q.num *ℤ r.num) (p.num *ℤ s.num) q r p s
    (multiplied q.num p.num r.num s.num (den q) (den p) (den r) (den s) e f)

pub opposite_respects : (q p : Fraction) → IsSame q p → IsSame (opposite_of q) (opposite_of p)
opposite_respects q p e = neg-times q.num (pos (den p)) ∙ ap neg_ℤ e ∙ sym (neg-times p.num (pos (den q)))

-- a difference is the sum with the opposite
pub difference-is : (q r : Fraction) → difference_of q r ≡ sum_of q (opposite_of r)
difference-is q r = ap (λ z. over_both (cross q r +ℤ z) q r) (sym (neg-times r.num (pos (den q))))

pub difference_respects : (q p r s : Fraction) → IsSame q p → IsSame r s → IsSame (difference_of q r) (difference_of p s)
difference_respects q p r s e f =
    same_along (difference_of q r) (sum_of q (opposite_of r)) (difference_of p s) (sum_of p (opposite_of s)) (difference-is q r) (difference-is p s)
    (sum_respects q p (opposite_of r) (opposite_of s) e (opposite_respects r s f))

-- so does a power
pub power_respects : (q p : Fraction) (k : ℕ) → IsSame q p → IsSame (power_of q k) (power_of p k)
power_respects q p zero e = refl
power_respects q p (suc k) e = product_respects (power_of q k) (power_of p k) q p (power_respects q p k e) e

-- 0 adds nothing, on either side
zero_beside : (a : ℤ) (k l : ℕ) → (pos 0 *ℤ pos l +ℤ a *ℤ pos k) *ℤ pos l ≡ a *ℤ pos (k * l)
zero_beside a k l =
    let nothing : pos 0 *ℤ pos l *ℤ pos l ≡ pos 0 = omega (arith, ints) in
    sum-times (pos 0 *ℤ pos l) (a *ℤ pos k) (pos l) ∙ ap₂ ◌+ℤ◌ nothing (flattened a k l) ∙ +ℤ_idl (a *ℤ pos (k * l))

pub sum-zero_left : (z q : Fraction) → z.num ≡ pos 0 → IsSame (sum_of z q) q
sum-zero_left z q e =
    ap (λ (n : ℤ). (n *ℤ pos (den q) +ℤ q.num *ℤ pos (den z)) *ℤ pos (den q)) e
    ∙ zero_beside q.num (den z) (den q)
    ∙ sym (ap (λ (k : ℕ). q.num *ℤ pos k) (den-over_both (cross z q +ℤ cross q z) z q))

-- two fractions with the same parts
same_parts : (m n : ℤ) (k l : ℕ) → m ≡ n → k ≡ l → record_of m k ≡ record_of n l
same_parts m n k l e f = ap₂ record_of e f

-- summands and factors change places
pub sum-swap : (q r : Fraction) → sum_of q r ≡ sum_of r q
unfolding record_of
sum-swap q r = same_parts _ _ _ _ (+ℤ_comm (cross q r) (cross r q)) (omega arith)

pub product-swap : (q r : Fraction) → product_of q r ≡ product_of r q
unfolding record_of
product-swap q r = same_parts _ _ _ _ (*ℤ_comm q.num r.num) (omega arith)

pub sum-zero_right : (q : Fraction) → IsSame (sum_of q (whole (pos 0))) q
sum-zero_right q = subst (λ s. IsSame s q) (sum-swap (whole (pos 0)) q) (sum-zero_left (whole (pos 0)) q refl)

-- factors in another order
pub product_assoc : (n a q : Fraction) → product_of (product_of n a) q ≡ product_of n (product_of a q)
unfolding record_of
product_assoc n a q = same_parts _ _ _ _ (same_in _ _ (simp (up-times, down-times) (omega arith))) (omega arith)

-- four summands in another order
pub sum_middle-swap : (p q r s : Fraction) → sum_of (sum_of p q) (sum_of r s) ≡ sum_of (sum_of p r) (sum_of q s)
unfolding record_of
sum_middle-swap p q r s = same_parts _ _ _ _ (simp (sum-times, flattened) (omega (arith, ints))) (omega arith)

-- a factor of both summands
factor_out : (a c x : ℤ) (k m : ℕ) → (a *ℤ pos m +ℤ c *ℤ pos k) *ℤ x ≡ a *ℤ x *ℤ pos m +ℤ c *ℤ x *ℤ pos k
factor_out a c x k m = sum-times (a *ℤ pos m) (c *ℤ pos k) x ∙ ap₂ ◌+ℤ◌ (times-swap a (pos m) x) (times-swap c (pos k) x)

pub sum-product : (a c q : Fraction) → IsSame (sum_of (product_of a q) (product_of c q)) (product_of (sum_of a c) q)
sum-product a c q = rw (factor_out a.num c.num q.num (den a) (den c)) (simp (sum-times, flattened) (omega (arith, ints)))

-- a factor on the left
pub product-sum : (n q r : Fraction) → IsSame (product_of n (sum_of q r)) (sum_of (product_of n q) (product_of n r))
product-sum n q r =
    same_along (product_of n (sum_of q r)) (product_of (sum_of q r) n) (sum_of (product_of n q) (product_of n r)) (sum_of (product_of q n) (product_of r n))
    (product-swap n (sum_of q r)) (ap₂ sum_of (product-swap n q) (product-swap n r)) (sym (sum-product q r n))

-- 1 multiplies nothing
pub one-product : (q : Fraction) → IsSame (product_of (whole (pos 1)) q) q
one-product q = same_in _ _ (simp (up-times, down-times) (omega arith))

-- the opposite of a sum and of a product
pub opposite-sum : (q r : Fraction) → opposite_of (sum_of q r) ≡ sum_of (opposite_of q) (opposite_of r)
opposite-sum q r =
    ap (λ n. over_both n q r)
    (neg_ℤ-+ℤ (cross q r) (cross r q) ∙ ap₂ ◌+ℤ◌ (sym (neg-times q.num (pos (den r)))) (sym (neg-times r.num (pos (den q)))))

pub opposite-product : (q r : Fraction) → opposite_of (product_of q r) ≡ product_of (opposite_of q) r
opposite-product q r = ap (λ n. over_both n q r) (sym (neg-times q.num r.num))

-- 1 over equal numbers
reciprocal_respects : (m n : ℤ) (k l : ℕ) → m *ℤ pos (l + 1) ≡ n *ℤ pos (k + 1) → IsSame (reciprocal_by m k) (reciprocal_by n l)
reciprocal_respects (pos zero) (pos zero) k l e = refl
reciprocal_respects (pos zero) (pos (suc n)) k l e = absurd (omega (arith, ints, e))
reciprocal_respects (pos zero) (negsuc n) k l e = absurd (omega (arith, ints, e))
reciprocal_respects (pos (suc m)) (pos zero) k l e = absurd (omega (arith, ints, e))
reciprocal_respects (pos (suc m)) (pos (suc n)) k l e = omega (arith, ints, e)
reciprocal_respects (pos (suc m)) (negsuc n) k l e = absurd (omega (arith, ints, e))
reciprocal_respects (negsuc m) (pos zero) k l e = absurd (omega (arith, ints, e))
reciprocal_respects (negsuc m) (pos (suc n)) k l e = absurd (omega (arith, ints, e))
reciprocal_respects (negsuc m) (negsuc n) k l e = omega (arith, ints, e)

-- equal divisors give equal quotients
pub quotient_respects : (q p r s : Fraction) → IsSame q p → IsSame r s → IsSame (quotient_of q r) (quotient_of p s)
quotient_respects q p r s e f =
    product_respects q p (reciprocal_of r) (reciprocal_of s) e (reciprocal_respects r.num s.num r.less s.less f)
