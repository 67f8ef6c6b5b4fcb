-- The bound on the parts of fractions, and fractions in lowest terms.
use Rattle.std.specs.Prelude.{◌≡◌, ℕ, ◌^◌, ◌≤◌, unsigned_abs}
use Prim.Native.Nat.{◌∣◌}
use Rattle.theory_meaning.specs.Fraction.{Fraction, den, IsSame}

-- the greatest absolute value of a coefficient, of a literal and of both parts of a fraction
abbrev pub bound : ℕ
bound = 2 ^ 58

-- both parts are within the bound
pub record IsWithin (q : Fraction) : Type 0 where
  pub top : unsigned_abs q.num ≤ bound
  pub bottom : den q ≤ bound

-- numerator and denominator have no common divisor but 1
abbrev pub IsReduced : Fraction → Type 0
IsReduced q = (d : ℕ) → d ∣ unsigned_abs q.num → d ∣ den q → d ≡ 1

-- no way of writing the fraction keeps both parts within the bound
abbrev pub IsWide : Fraction → Type 0
IsWide q = (r : Fraction) → IsWithin r → ¬ IsSame r q
