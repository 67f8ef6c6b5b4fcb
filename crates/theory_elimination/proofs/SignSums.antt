-- Signs of whole numbers, of their sums and products.
use Rattle.std.proofs.Common.{◌≡◌, ℕ, zero, suc, ◌+◌, ℤ, pos, negsuc, neg_ℤ, ◌+ℤ◌, ◌*ℤ◌, refl, ap, ◌∙◌, arith}
use Rattle.std.specs.Prelude.{◌<ℤ◌}
use Rattle.std.proofs.lemmas.Int.{ints}
use Rattle.theory_meaning.specs.declared.words.Sign.{Sign}
use Rattle.theory_meaning.specs.declared.words.Sign.TheVariants.{Minus, Zero, Plus}
use Rattle.theory_meaning.specs.Fraction.{opposite_sign}
use Rattle.theory_formula.specs.Signs.{sign_of_whole}

-- the sign is that of the number, read off an inequality and back
pub positive : (a : ℤ) → pos 0 <ℤ a → sign_of_whole a ≡ Plus
positive (pos zero) h = absurd (omega (arith, ints, h))
positive (pos (suc n)) h = refl
positive (negsuc n) h = absurd (omega (arith, ints, h))

pub negative : (a : ℤ) → a <ℤ pos 0 → sign_of_whole a ≡ Minus
negative (pos n) h = absurd (omega (arith, ints, h))
negative (negsuc n) h = refl

pub none : (a : ℤ) → a ≡ pos 0 → sign_of_whole a ≡ Zero
none a h = ap sign_of_whole h

pub is_positive : (a : ℤ) → sign_of_whole a ≡ Plus → pos 0 <ℤ a
is_positive (pos zero) h = absurd cc
is_positive (pos (suc n)) h = omega (arith, ints)
is_positive (negsuc n) h = absurd cc

pub is_negative : (a : ℤ) → sign_of_whole a ≡ Minus → a <ℤ pos 0
is_negative (pos zero) h = absurd cc
is_negative (pos (suc n)) h = absurd cc
is_negative (negsuc n) h = omega (arith, ints)

pub is_none : (a : ℤ) → sign_of_whole a ≡ Zero → a ≡ pos 0
is_none (pos zero) h = refl
is_none (pos (suc n)) h = absurd cc
is_none (negsuc n) h = absurd cc

-- the sign of a product
abbrev pub times : Sign → Sign → Sign
times Zero t = Zero
times Plus t = t
times Minus t = opposite_sign t

-- the sign that a sum of numbers with these signs can have
abbrev pub CanSum : Sign → Sign → Sign → Type 0
CanSum Zero t r = r ≡ t
CanSum Plus Zero r = r ≡ Plus
CanSum Plus Plus r = r ≡ Plus
CanSum Plus Minus r = Unit {0}
CanSum Minus Zero r = r ≡ Minus
CanSum Minus Minus r = r ≡ Minus
CanSum Minus Plus r = Unit {0}

pub sign_of_sum : (a b : ℤ) → CanSum (sign_of_whole a) (sign_of_whole b) (sign_of_whole (a +ℤ b))
sign_of_sum (pos zero) b = ap sign_of_whole (omega (arith, ints))
sign_of_sum (pos (suc m)) (pos zero) = positive (pos (suc m) +ℤ pos zero) (omega (arith, ints))
sign_of_sum (pos (suc m)) (pos (suc n)) = positive (pos (suc m) +ℤ pos (suc n)) (omega (arith, ints))
sign_of_sum (pos (suc m)) (negsuc n) = tt
sign_of_sum (negsuc m) (pos zero) = negative (negsuc m +ℤ pos zero) (omega (arith, ints))
sign_of_sum (negsuc m) (pos (suc n)) = tt
sign_of_sum (negsuc m) (negsuc n) = negative (negsuc m +ℤ negsuc n) (omega (arith, ints))

pub sign_of_product : (a b : ℤ) → sign_of_whole (a *ℤ b) ≡ times (sign_of_whole a) (sign_of_whole b)
sign_of_product (pos zero) b = none (pos zero *ℤ b) (grind (arith, ints))
sign_of_product (pos (suc m)) (pos zero) = none (pos (suc m) *ℤ pos zero) (grind (arith, ints))
sign_of_product (pos (suc m)) (pos (suc n)) = positive (pos (suc m) *ℤ pos (suc n)) (grind (arith, ints))
sign_of_product (pos (suc m)) (negsuc n) = negative (pos (suc m) *ℤ negsuc n) (grind (arith, ints))
sign_of_product (negsuc m) (pos zero) = none (negsuc m *ℤ pos zero) (grind (arith, ints))
sign_of_product (negsuc m) (pos (suc n)) = negative (negsuc m *ℤ pos (suc n)) (grind (arith, ints))
sign_of_product (negsuc m) (negsuc n) = positive (negsuc m *ℤ negsuc n) (grind (arith, ints))

pub times_plus : (s : Sign) → times s Plus ≡ s
times_plus Minus = refl
times_plus Zero = refl
times_plus Plus = refl

-- a positive factor leaves the sign
pub sign_of_scaled : (a : ℤ) (n : ℕ) → sign_of_whole (a *ℤ pos (n + 1)) ≡ sign_of_whole a
sign_of_scaled a n = sign_of_product a (pos (n + 1)) ∙ ap (times (sign_of_whole a)) (positive (pos (n + 1)) (omega (arith, ints)))
    ∙ times_plus (sign_of_whole a)

pub sign_of_opposite : (a : ℤ) → sign_of_whole (neg_ℤ a) ≡ opposite_sign (sign_of_whole a)
sign_of_opposite (pos zero) = refl
sign_of_opposite (pos (suc n)) = refl
sign_of_opposite (negsuc n) = refl
