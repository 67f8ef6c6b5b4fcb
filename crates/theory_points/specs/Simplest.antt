-- The simplest fraction between two, as two parts, and the same over whole numbers at least 0.
-- Source: textbook, continued fractions.
use Rattle.std.specs.Prelude.{◌≡◌, ℕ, ◌*◌, ◌<◌, ◌≤◌, ℤ, pos, ◌≤ℤ◌, unsigned_abs}
use Rattle.theory_meaning.specs.Fraction.{Fraction, den}
use Rattle.theory_meaning.specs.Limits.{bound}

-- n over d is a fraction of which the fact is true
abbrev pub HasParts : ℤ → ℤ → (Fraction → Type 0) → Type 0
HasParts n d IsMet = (q : Fraction) × (q.num ≡ n) × (pos (den q) ≡ d) × IsMet q

-- both parts are at most twice the bound
pub record IsWithinTwice (n d : ℤ) : Type 0 where
  pub top : unsigned_abs n ≤ 2 * bound
  pub bottom : unsigned_abs d ≤ 2 * bound

-- n over m lies strictly between a over b and c over d, where c over 0 is above every fraction
pub record LiesBetween (a b c d n m : ℕ) : Type 0 where
  pub above : a * m < n * b
  pub under : n * d < c * m

-- n over m lies between, and what else lies between has neither a lesser numerator nor a lesser denominator
pub record IsLeastBetween (a b c d n m : ℕ) : Type 0 where
  pub between : LiesBetween a b c d n m
  pub least : (r s : ℕ) → LiesBetween a b c d r s → (n ≤ r) × (m ≤ s)

-- n over d is at least 0, and the least ratio between lo and hi without their signs
pub record IsLeastOfMagnitudes (lo hi : Fraction) (n d : ℤ) : Type 0 where
  pub top : pos 0 ≤ℤ n
  pub bottom : pos 0 ≤ℤ d
  pub least : IsLeastBetween (unsigned_abs lo.num) (den lo) (unsigned_abs hi.num) (den hi) (unsigned_abs n) (unsigned_abs d)
