-- Values of symbols as they are held.
use Rattle.std.specs.Prelude.{◌≡◌, ℕ, ◌<◌, length}
use Rattle.theory_meaning.specs.Fraction.{Fraction}
use Rattle.theory_polynomial.specs.PolynomialValue.{Values}
use Rattle.theory_elimination.specs.Elimination.{with_value}

-- the symbol has a place, and what it is given makes the same point as before
pub record IsFilledUp (x : ℕ) (old new : Values) : Type 0 where
  pub place : x < length new
  pub same : (v : Fraction) → with_value x v new ≡ with_value x v old
