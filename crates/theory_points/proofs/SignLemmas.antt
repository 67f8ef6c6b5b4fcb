-- Signs and sizes of whole numbers, and their products. Source: textbook.
use Rattle.std.proofs.Common.{◌≡◌, ◌≢◌, ℕ, zero, suc, ◌+◌, ◌*◌, ◌<◌, Bool, true, false, not, int_lt, ℤ, pos, negsuc, ◌*ℤ◌, neg_ℤ, unsigned_abs, refl, sym, ap, ◌∙◌, arith}
use Rattle.std.proofs.lemmas.Int.{ints, unsigned_abs-mul}
use Rattle.std.proofs.Math.Bool.{beq}
use Rattle.theory_points.specs.Parts.{signed}

-- whether the signs of two numbers differ
abbrev pub signs_differ : ℤ → ℤ → Bool
signs_differ n d = not (beq (int_lt n (pos 0)) (int_lt d (pos 0)))

-- a number is its size with its sign
pub signed_size : (n : ℤ) → n ≡ signed (int_lt n (pos 0)) (unsigned_abs n)
signed_size (pos n) = let plus : int_lt (pos n) (pos 0) ≡ false = grind (arith, ints) in ap (λ s. signed s n) (sym plus)
signed_size (negsuc n) = refl

-- a sign leaves the size
pub unsigned_abs-signed : (minus : Bool) (a : ℕ) → unsigned_abs (signed minus a) ≡ a
unsigned_abs-signed true zero = refl
unsigned_abs-signed true (suc a) = refl
unsigned_abs-signed false a = refl

-- the size of a number is that of its opposite
pub unsigned_abs-neg_ℤ : (n : ℤ) → unsigned_abs (neg_ℤ n) ≡ unsigned_abs n
unsigned_abs-neg_ℤ (pos zero) = refl
unsigned_abs-neg_ℤ (pos (suc n)) = refl
unsigned_abs-neg_ℤ (negsuc n) = refl

-- only 0 has the size 0
pub size_above_zero : (d : ℤ) → d ≢ pos 0 → 0 < unsigned_abs d
size_above_zero (pos zero) h = absurd (h refl)
size_above_zero (pos (suc n)) h = omega arith
size_above_zero (negsuc n) h = omega arith

-- numbers of one size whose products with a positive number are equal
pub same_by_size : (a b : ℤ) (d : ℕ) → unsigned_abs a ≡ unsigned_abs b → a *ℤ pos (d + 1) ≡ b *ℤ pos (d + 1) → a ≡ b
same_by_size (pos a) (pos b) d h e = ap pos h
same_by_size (negsuc a) (negsuc b) d h e = let same : a ≡ b = omega arith in ap negsuc same
same_by_size (pos a) (negsuc b) d h e = absurd (omega (arith, ints))
same_by_size (negsuc a) (pos b) d h e = absurd (omega (arith, ints))

-- equal products have equal sizes
pub sizes_of_products : (a b c d : ℤ) → a *ℤ b ≡ c *ℤ d → unsigned_abs a * unsigned_abs b ≡ unsigned_abs c * unsigned_abs d
sizes_of_products a b c d h = sym (unsigned_abs-mul a b) ∙ ap unsigned_abs h ∙ unsigned_abs-mul c d

-- a minus before the first factor
neg_ℤ-mul : (a b : ℕ) → neg_ℤ (pos a) *ℤ pos b ≡ neg_ℤ (pos (a * b))
neg_ℤ-mul zero b = omega (arith, ints)
neg_ℤ-mul (suc a) b = refl

-- a minus before the second factor
mul-neg_ℤ : (a b : ℕ) → pos a *ℤ neg_ℤ (pos b) ≡ neg_ℤ (pos (a * b))
mul-neg_ℤ a zero = omega (arith, ints)
mul-neg_ℤ a (suc b) = refl

-- a minus before both factors
neg_ℤ-mul-neg_ℤ : (a b : ℕ) → neg_ℤ (pos a) *ℤ neg_ℤ (pos b) ≡ pos (a * b)
neg_ℤ-mul-neg_ℤ zero b = omega (arith, ints)
neg_ℤ-mul-neg_ℤ (suc a) zero = omega (arith, ints)
neg_ℤ-mul-neg_ℤ (suc a) (suc b) = refl

-- the factors in another order
reordered : (a b g : ℕ) → a * (b * g) ≡ a * g * b
reordered a b g = omega arith

-- the same, with a minus
reordered_minus : (a b g : ℕ) → neg_ℤ (pos (a * (b * g))) ≡ neg_ℤ (pos (a * g)) *ℤ pos b
reordered_minus a b g = ap (λ n. neg_ℤ (pos n)) (reordered a b g) ∙ sym (neg_ℤ-mul (a * g) b)

-- a common factor may be taken out, and one sign for two
pub signed-cross : (s t : Bool) (a b g : ℕ) → signed (not (beq s t)) a *ℤ signed t (b * g) ≡ signed s (a * g) *ℤ pos b
signed-cross true true a b g = mul-neg_ℤ a (b * g) ∙ reordered_minus a b g
signed-cross true false a b g = neg_ℤ-mul a (b * g) ∙ reordered_minus a b g
signed-cross false true a b g = neg_ℤ-mul-neg_ℤ a (b * g) ∙ ap pos (reordered a b g)
signed-cross false false a b g = ap pos (reordered a b g)
