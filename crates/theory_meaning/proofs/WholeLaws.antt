-- Whole numbers: products and sums, and a positive factor that order and equality don't see.
use Rattle.std.proofs.Common.{◌≡◌, ℕ, ◌+◌, ◌*◌, ◌<◌, ◌≤◌, Bool, true, false, ℤ, pos, ◌+ℤ◌, ◌*ℤ◌, neg_ℤ, ◌<ℤ◌, ◌≤ℤ◌, refl, ap, arith}
use Rattle.std.proofs.lemmas.Int.{ints}
use Rattle.std.proofs.Math.Nat.{mul-lt-mul_of_pos_right, mul-le-mul_right}
use Rattle.std.specs.Prelude.{int_lt}
use Rattle.std.specs.Ordering.{int_eq}
use borrow.Author.Differences.{up, down, same_in, product_is, sum_is_lem, neg_is}

-- the two parts of a product; with `same_in` they decide equations between products
pub up-times : (a b : ℤ) → up (a *ℤ b) ≡ up a * up b + down a * down b
up-times a b = (product_is a b).0

pub down-times : (a b : ℤ) → down (a *ℤ b) ≡ up a * down b + down a * up b
down-times a b = (product_is a b).1

-- the two parts of an opposite
pub up-neg : (a : ℤ) → up (neg_ℤ a) ≡ down a
up-neg a = (neg_is a).0

pub down-neg : (a : ℤ) → down (neg_ℤ a) ≡ up a
down-neg a = (neg_is a).1

-- a product of an opposite is the opposite of the product
pub neg-times : (a b : ℤ) → neg_ℤ a *ℤ b ≡ neg_ℤ (a *ℤ b)
neg-times a b = same_in _ _ (simp (up-times, down-times, up-neg, down-neg) (omega arith))

-- a product of a sum is a sum of products
pub sum-times : (a b c : ℤ) → (a +ℤ b) *ℤ c ≡ a *ℤ c +ℤ b *ℤ c
sum-times a b c =
    let e = ap (λ (k : ℕ). k * up c) (sum_is_lem a b) in
    let f = ap (λ (k : ℕ). k * down c) (sum_is_lem a b) in
    omega (arith, ints, e, f)

-- two positive factors are one
pub flattened : (a : ℤ) (k l : ℕ) → a *ℤ pos k *ℤ pos l ≡ a *ℤ pos (k * l)
flattened a k l = same_in _ _ (simp (up-times, down-times) (omega arith))

-- two factors change places
pub times-swap : (a b c : ℤ) → a *ℤ b *ℤ c ≡ a *ℤ c *ℤ b
times-swap a b c = same_in _ _ (simp (up-times, down-times) (omega arith))

-- a comparison that a positive factor on both sides doesn't change
abbrev pub Scales : (ℤ → ℤ → Bool) → Type 0
Scales test = (a b : ℤ) (n : ℕ) → test (a *ℤ pos (n + 1)) (b *ℤ pos (n + 1)) ≡ test a b

-- an order is kept
pub lt_scaled : (a b : ℤ) (n : ℕ) → a <ℤ b → (a *ℤ pos (n + 1)) <ℤ (b *ℤ pos (n + 1))
lt_scaled a b n h =
    let less : up a + down b < up b + down a = omega (arith, ints) in
    let positive : 0 < n + 1 = omega arith in
    let scaled : (up a + down b) * (n + 1) < (up b + down a) * (n + 1) = mul-lt-mul_of_pos_right less positive in
    omega (arith, ints)

pub le_scaled : (a b : ℤ) (n : ℕ) → a ≤ℤ b → (a *ℤ pos (n + 1)) ≤ℤ (b *ℤ pos (n + 1))
le_scaled a b n h =
    let less : up a + down b ≤ up b + down a = omega (arith, ints) in
    let scaled : (up a + down b) * (n + 1) ≤ (up b + down a) * (n + 1) = mul-le-mul_right (n + 1) less in
    omega (arith, ints)

-- the test of an order and the order
pub lt_from_test : (a b : ℤ) → int_lt a b ≡ true → a <ℤ b
lt_from_test a b h = grind (arith, ints)

pub test_from_lt : (a b : ℤ) → a <ℤ b → int_lt a b ≡ true
test_from_lt a b h = grind (arith, ints)

pub test_from_le : (a b : ℤ) → b ≤ℤ a → int_lt a b ≡ false
test_from_le a b h = grind (arith, ints)

pub le_from_test : (a b : ℤ) → int_lt a b ≡ false → b ≤ℤ a
le_from_test a b h = grind (arith, ints)

lt_by : (a b : ℤ) (n : ℕ) (t : Bool) → int_lt a b ≡ t → int_lt (a *ℤ pos (n + 1)) (b *ℤ pos (n + 1)) ≡ t
lt_by a b n true e = test_from_lt _ _ (lt_scaled a b n (lt_from_test a b e))
lt_by a b n false e = test_from_le _ _ (le_scaled b a n (le_from_test a b e))

-- the order is such a comparison
pub int_lt_scales : Scales int_lt
int_lt_scales a b n = lt_by a b n (int_lt a b) refl

-- turned round too
pub int_gt_scales : Scales (λ a b. int_lt b a)
int_gt_scales a b n = int_lt_scales b a n

-- equality is read off the two orders
pub int_eq_from_lt : (a b c d : ℤ) → int_lt a b ≡ int_lt c d → int_lt b a ≡ int_lt d c → int_eq a b ≡ int_eq c d
int_eq_from_lt a b c d e f = grind (arith, ints)

pub int_eq_scales : Scales int_eq
int_eq_scales a b n =
    int_eq_from_lt (a *ℤ pos (n + 1)) (b *ℤ pos (n + 1)) a b (int_lt_scales a b n) (int_lt_scales b a n)
