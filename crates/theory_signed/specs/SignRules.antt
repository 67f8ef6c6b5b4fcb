-- What is known of a sign, and what follows for powers, products and sums. Source: textbook (the rule of signs).
use Rattle.std.specs.Prelude.{ℕ, zero, suc, Bool, true, ◌&&◌, ◌||◌, Option, None, Some}
use Rattle.theory_meaning.specs.Fraction.{opposite_sign}
use Rattle.theory_meaning.specs.declared.words.Sign.{Sign}
use Rattle.theory_meaning.specs.declared.words.Sign.TheVariants.{Minus, Zero, Plus}
use Rattle.theory_formula.specs.declared.signs.Signs.{Signs}
use Rattle.theory_formula.specs.Signs.{has, set_of}
use Rattle.theory_elimination.specs.TestPoint.{is_same_sign}

-- the sign of a product of numbers with these signs
abbrev pub product_sign : Sign → Sign → Sign
product_sign Minus t = opposite_sign t
product_sign Zero t = Zero
product_sign Plus t = t

-- the sign of a power of a number with this sign
abbrev pub power_sign : Sign → ℕ → Sign
power_sign s zero = Plus
power_sign s (suc n) = product_sign (power_sign s n) s

-- a sum of numbers with the first two signs can have the third: zero adds nothing, and only opposite signs leave it open
abbrev pub can_sum : Sign → Sign → Sign → Bool
can_sum Zero t r = is_same_sign t r
can_sum Plus Zero r = is_same_sign Plus r
can_sum Plus Plus r = is_same_sign Plus r
can_sum Plus Minus r = true
can_sum Minus Zero r = is_same_sign Minus r
can_sum Minus Minus r = is_same_sign Minus r
can_sum Minus Plus r = true

-- what is known of a sign: that it is in a set, or nothing
abbrev pub Known : Type 0
Known = Option Signs

-- the sign is possible
abbrev pub may_be : Known → Sign → Bool
may_be None s = true
may_be (Some T) s = has T s

-- what is known of a sign that passes the test, where some sign does
abbrev pub known_by : (Sign → Bool) → Known
known_by f = set_of (f Minus) (f Zero) (f Plus)

-- some sign passes the test
abbrev pub some_sign : (Sign → Bool) → Bool
some_sign f = f Minus || f Zero || f Plus

-- the signs of a power of a number with a possible sign
abbrev pub powers : Known → ℕ → Known
powers T n = known_by (λ r. some_sign (λ s. may_be T s && is_same_sign (power_sign s n) r))

-- the signs of a product of two numbers, each with a possible sign
abbrev pub products : Known → Known → Known
products T U = known_by (λ r. some_sign (λ s. some_sign (λ t. (may_be T s && may_be U t) && is_same_sign (product_sign s t) r)))

-- the signs of a sum of two numbers, each with a possible sign
abbrev pub sums : Known → Known → Known
sums T U = known_by (λ r. some_sign (λ s. some_sign (λ t. (may_be T s && may_be U t) && can_sum s t r)))
