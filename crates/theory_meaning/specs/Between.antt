-- Fractions between two others, and whole numbers next to one.
-- Source: textbook; the choice of the simplest fraction is this project's own.
use Rattle.std.specs.Prelude.{◌≡◌, ℤ, ◌≤◌, ◌≤ℤ◌, unsigned_abs}
use Rattle.theory_meaning.specs.Fraction.{Fraction, den, whole, IsBelow}

-- strictly between
pub record IsBetween (lo hi q : Fraction) : Type 0 where
  pub above : IsBelow lo q
  pub under : IsBelow q hi

-- of the fractions strictly between, the one with the least denominator and then the least absolute numerator
pub record IsSimplestBetween (lo hi q : Fraction) : Type 0 where
  pub between : IsBetween lo hi q
  pub least_den : (r : Fraction) → IsBetween lo hi r → den q ≤ den r
  pub least_num : (r : Fraction) → IsBetween lo hi r → den r ≡ den q → unsigned_abs q.num ≤ unsigned_abs r.num

-- the greatest whole number strictly below
pub record IsWholeBelow (q : Fraction) (n : ℤ) : Type 0 where
  pub below : IsBelow (whole n) q
  pub greatest : (m : ℤ) → IsBelow (whole m) q → m ≤ℤ n

-- the least whole number strictly above
pub record IsWholeAbove (q : Fraction) (n : ℤ) : Type 0 where
  pub above : IsBelow q (whole n)
  pub least : (m : ℤ) → IsBelow q (whole m) → n ≤ℤ m
