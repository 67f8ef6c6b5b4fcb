-- Lines over the whole numbers: their signs at fractions, and what the order of two fractions says of these.
use Rattle.std.proofs.Common.{◌≡◌, ℕ, zero, suc, ◌+◌, ℤ, pos, negsuc, neg_ℤ, ◌+ℤ◌, ◌*ℤ◌, refl, sym, ap, ap₂, ◌∙◌, subst, arith}
use Rattle.std.proofs.Math.IntN.{*ℤ_comm}
use Rattle.std.proofs.lemmas.Int.{ints}
use Rattle.theory_meaning.proofs.WholeLaws.{neg-times, sum-times, times-swap}
use Rattle.theory_meaning.specs.declared.words.Sign.{Sign}
use Rattle.theory_meaning.specs.declared.words.Sign.TheVariants.{Zero}
use Rattle.theory_meaning.specs.Fraction.{Fraction, den, cross, opposite_sign}
use Rattle.theory_formula.specs.Signs.{sign_of_whole}
use Rattle.theory_elimination.proofs.SignSums.{none, is_none, times, CanSum, sign_of_sum, sign_of_product, sign_of_scaled, sign_of_opposite}

pub record Line : Type 0 where
  pub slope : ℤ
  pub base : ℤ

-- what the line is at a fraction, times its denominator
abbrev pub height : Line → Fraction → ℤ
height l v = l.slope *ℤ v.num +ℤ l.base *ℤ pos (den v)

abbrev pub sign_on : Line → Fraction → Sign
sign_on l v = sign_of_whole (height l v)

abbrev pub slope_sign : Line → Sign
slope_sign l = sign_of_whole l.slope

abbrev pub base_sign : Line → Sign
base_sign l = sign_of_whole l.base

-- the sign of the way from one fraction to another
abbrev pub way : Fraction → Fraction → Sign
way v w = sign_of_whole (cross w v +ℤ neg_ℤ (cross v w))

-- products put in another order
turned : (m d a : ℤ) → m *ℤ d *ℤ a ≡ a *ℤ m *ℤ d
turned m d a = times-swap m d a ∙ ap (λ (z : ℤ). z *ℤ d) (*ℤ_comm m a)

times_difference : (a m d n e : ℤ) → a *ℤ (m *ℤ d +ℤ neg_ℤ (n *ℤ e)) ≡ a *ℤ m *ℤ d +ℤ neg_ℤ (a *ℤ n *ℤ e)
times_difference a m d n e =
    *ℤ_comm a (m *ℤ d +ℤ neg_ℤ (n *ℤ e)) ∙ sum-times (m *ℤ d) (neg_ℤ (n *ℤ e)) a
    ∙ ap₂ ◌+ℤ◌ (turned m d a) (neg-times (n *ℤ e) a ∙ ap neg_ℤ (turned n e a))

regrouped : (x y z : ℤ) → x +ℤ y ≡ (z +ℤ y) +ℤ (x +ℤ neg_ℤ z)
regrouped x y z = omega (arith, ints)

shifted : (a b n m d e : ℤ) → (a *ℤ m +ℤ b *ℤ e) *ℤ d ≡ (a *ℤ n +ℤ b *ℤ d) *ℤ e +ℤ a *ℤ (m *ℤ d +ℤ neg_ℤ (n *ℤ e))
shifted a b n m d e =
    sum-times (a *ℤ m) (b *ℤ e) d ∙ ap (λ (y : ℤ). a *ℤ m *ℤ d +ℤ y) (times-swap b e d)
    ∙ regrouped (a *ℤ m *ℤ d) (b *ℤ d *ℤ e) (a *ℤ n *ℤ e)
    ∙ ap₂ ◌+ℤ◌ (sym (sum-times (a *ℤ n) (b *ℤ d) e)) (sym (times_difference a m d n e))

-- the sign further along is that here, and that of the slope times the way
pub sign_along : (l : Line) (v w : Fraction) → CanSum (sign_on l v) (times (slope_sign l) (way v w)) (sign_on l w)
sign_along l v w =
    let d : ℤ = pos (den v) in
    let e : ℤ = pos (den w) in
    let moved : ℤ = l.slope *ℤ (cross w v +ℤ neg_ℤ (cross v w)) in
    let sum = sign_of_sum (height l v *ℤ e) moved in
    subst (λ (r : Sign). CanSum (sign_on l v) (times (slope_sign l) (way v w)) r)
    (ap sign_of_whole (sym (shifted l.slope l.base v.num w.num d e)) ∙ sign_of_scaled (height l w) v.less)
    (subst (λ (t : Sign). CanSum (sign_on l v) t (sign_of_whole (height l v *ℤ e +ℤ moved))) (sign_of_product l.slope (cross w v +ℤ neg_ℤ (cross v w)))
    (subst (λ (s : Sign). CanSum s (sign_of_whole moved) (sign_of_whole (height l v *ℤ e +ℤ moved))) (sign_of_scaled (height l v) w.less) sum))

turned_back : (c d : ℤ) → d +ℤ neg_ℤ c ≡ neg_ℤ (c +ℤ neg_ℤ d)
turned_back c d = omega (arith, ints)

-- the way back
pub way_back : (v w : Fraction) → way w v ≡ opposite_sign (way v w)
way_back v w =
    ap sign_of_whole (turned_back (cross w v) (cross v w)) ∙ sign_of_opposite (cross w v +ℤ neg_ℤ (cross v w))

no_slope : (n c : ℤ) → pos 0 *ℤ n +ℤ c ≡ c
no_slope n c = omega (arith, ints)

-- a line without slope has one sign
pub flat : (l : Line) (v : Fraction) → slope_sign l ≡ Zero → sign_on l v ≡ base_sign l
flat l v h =
    let nothing : l.slope ≡ pos 0 = is_none l.slope h in
    let left : height l v ≡ l.base *ℤ pos (den v) = ap (λ (a : ℤ). a *ℤ v.num +ℤ l.base *ℤ pos (den v)) nothing ∙ no_slope (v.num) (l.base *ℤ pos (den v)) in
    ap sign_of_whole left ∙ sign_of_scaled l.base v.less

-- the root of a line, which is 0 where there is no slope
abbrev pub root_by : ℤ → ℤ → Fraction
root_by (pos zero) b = record { num = pos 0; less = 0 }
root_by (pos (suc n)) b = record { num = neg_ℤ b; less = n }
root_by (negsuc n) b = record { num = b; less = n }

abbrev pub root_of : Line → Fraction
root_of l = root_by l.slope l.base

-- the line is zero at its root, where it has a slope
times_neg : (a b : ℤ) → a *ℤ neg_ℤ b ≡ neg_ℤ (a *ℤ b)
times_neg a b = *ℤ_comm a (neg_ℤ b) ∙ neg-times b a ∙ ap neg_ℤ (*ℤ_comm b a)

one_more : (n : ℕ) → pos (n + 1) ≡ pos (suc n)
one_more n = ap pos (omega arith)

-- a product with n + 1, as one with the positive number that it is
as_suc : (b : ℤ) (n : ℕ) → b *ℤ pos (n + 1) ≡ pos (suc n) *ℤ b
as_suc b n = ap (λ (z : ℤ). b *ℤ z) (one_more n) ∙ *ℤ_comm b (pos (suc n))

cancels : (x y : ℤ) → x ≡ y → neg_ℤ x +ℤ y ≡ pos 0
cancels x y h = omega (arith, ints, h)

risen : (n : ℕ) (b : ℤ) → pos (suc n) *ℤ neg_ℤ b +ℤ b *ℤ pos (n + 1) ≡ pos 0
risen n b = ap (λ (z : ℤ). z +ℤ b *ℤ pos (n + 1)) (times_neg (pos (suc n)) b) ∙ cancels (pos (suc n) *ℤ b) (b *ℤ pos (n + 1)) (sym (as_suc b n))

fallen : (n : ℕ) (b : ℤ) → negsuc n *ℤ b +ℤ b *ℤ pos (n + 1) ≡ pos 0
fallen n b = ap (λ (z : ℤ). z +ℤ b *ℤ pos (n + 1)) (neg-times (pos (suc n)) b) ∙ cancels (pos (suc n) *ℤ b) (b *ℤ pos (n + 1)) (sym (as_suc b n))

at_root : (a b : ℤ) → (sign_of_whole a ≡ Zero → ⊥) → a *ℤ (root_by a b).num +ℤ b *ℤ pos (den (root_by a b)) ≡ pos 0
at_root (pos zero) b h = absurd (h refl)
at_root (pos (suc n)) b h = risen n b
at_root (negsuc n) b h = fallen n b

pub zero_at_root : (l : Line) → (slope_sign l ≡ Zero → ⊥) → sign_on l (root_of l) ≡ Zero
zero_at_root l h = none (height l (root_of l)) (at_root l.slope l.base h)

-- the sign of one line at the root of another
twice_turned : (z : ℤ) → neg_ℤ (neg_ℤ z) ≡ z
twice_turned z = omega (arith, ints)

swapped_sum : (x y z w : ℤ) → x ≡ neg_ℤ z → y ≡ w → x +ℤ y ≡ w +ℤ neg_ℤ z
swapped_sum x y z w h k = omega (arith, ints, h, k)

cross_risen : (n : ℕ) (b c d : ℤ) → c *ℤ neg_ℤ b +ℤ d *ℤ pos (n + 1) ≡ pos (suc n) *ℤ d +ℤ neg_ℤ (c *ℤ b)
cross_risen n b c d = swapped_sum (c *ℤ neg_ℤ b) (d *ℤ pos (n + 1)) (c *ℤ b) (pos (suc n) *ℤ d) (times_neg c b) (as_suc d n)

turned_sum : (x y z : ℤ) → y ≡ neg_ℤ z → x +ℤ y ≡ neg_ℤ (z +ℤ neg_ℤ x)
turned_sum x y z h = omega (arith, ints, h)

cross_fallen : (n : ℕ) (b c d : ℤ) → c *ℤ b +ℤ d *ℤ pos (n + 1) ≡ neg_ℤ (negsuc n *ℤ d +ℤ neg_ℤ (c *ℤ b))
cross_fallen n b c d =
    turned_sum (c *ℤ b) (d *ℤ pos (n + 1)) (negsuc n *ℤ d)
    (as_suc d n ∙ sym (twice_turned (pos (suc n) *ℤ d)) ∙ ap neg_ℤ (sym (neg-times (pos (suc n)) d)))

pub other_at_root : (a b c d : ℤ) → (sign_of_whole a ≡ Zero → ⊥)
    → sign_of_whole (c *ℤ (root_by a b).num +ℤ d *ℤ pos (den (root_by a b))) ≡ times (sign_of_whole a) (sign_of_whole (a *ℤ d +ℤ neg_ℤ (c *ℤ b)))
other_at_root (pos zero) b c d h = absurd (h refl)
other_at_root (pos (suc n)) b c d h = ap sign_of_whole (cross_risen n b c d)
other_at_root (negsuc n) b c d h = ap sign_of_whole (cross_fallen n b c d) ∙ sign_of_opposite (negsuc n *ℤ d +ℤ neg_ℤ (c *ℤ b))
