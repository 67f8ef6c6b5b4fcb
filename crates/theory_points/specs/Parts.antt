-- Quotients of two whole numbers, and what is kept of a fraction.
use Rattle.std.specs.Prelude.{◌≡◌, ◌≢◌, ℕ, ◌+◌, ◌-◌, ◌*◌, ◌<◌, ◌⊎◌, Bool, true, false, ℤ, pos, neg_ℤ, ◌+ℤ◌, ◌*ℤ◌, ◌≤ℤ◌, ◌<ℤ◌, Option, None, Some}
use Rattle.std.proofs.Common.{arith}
use Prim.Native.Nat.{◌∣◌}
use Rattle.theory_meaning.specs.Fraction.{Fraction, den}
use Rattle.theory_meaning.specs.Limits.{bound, IsWithin, IsReduced}

-- the fraction with this numerator and this denominator above 0
abbrev pub parted : ℤ → ℕ → Fraction
parted n d = record { num = n; less = d - 1 }

-- in lowest terms, with both parts within the bound
pub record IsKept (q : Fraction) : Type 0 where
  pub within : IsWithin q
  pub reduced : IsReduced q

-- the fraction is n over d, and d isn't 0
pub record IsQuotient (n d : ℤ) (q : Fraction) : Type 0 where
  pub divides : d ≢ pos 0
  pub equal : q.num *ℤ d ≡ n *ℤ pos (den q)

-- no fraction within the bound is n over d
abbrev pub IsWideQuotient : ℤ → ℤ → Type 0
IsWideQuotient n d = (q : Fraction) → IsWithin q → ¬ IsQuotient n d q

-- no common divisor but 1
abbrev pub AreCoprime : ℕ → ℕ → Type 0
AreCoprime a b = (d : ℕ) → d ∣ a → d ∣ b → d ≡ 1

-- a over b is top over bottom in lowest terms
pub record AreLowest (top bottom a b : ℕ) : Type 0 where
  pub times : ℕ
  pub first : top ≡ a * times
  pub second : bottom ≡ b * times
  pub positive : 0 < b
  pub coprime : AreCoprime a b

-- the number with a minus before it or none
abbrev pub signed : Bool → ℕ → ℤ
signed true n = neg_ℤ (pos n)
signed false n = pos n

-- the fraction of these parts with or without a minus, or none where one of them is above the bound
abbrev pub HasBoundedParts : Bool → ℕ → ℕ → Option Fraction → Type 0
HasBoundedParts minus top bottom None = (bound < top) ⊎ (bound < bottom)
HasBoundedParts minus top bottom (Some q) = q ≡ parted (signed minus top) bottom

-- the whole number n is a over d, rounded down
pub record IsFloor (a d n : ℤ) : Type 0 where
  pub reached : (n *ℤ d) ≤ℤ a
  pub passed : a <ℤ ((n *ℤ d) +ℤ d)

-- a denominator is one more than itself less one
pub less_and_one : (d : ℕ) → 0 < d → (d - 1) + 1 ≡ d
less_and_one d h = omega arith
