-- What contracts see of an atom.
use Rattle.std.specs.Prelude.{List}
use Rattle.theory_formula.specs.declared.signs.Signs.{Signs}
use Rattle.theory_polynomial.specs.Polynomial.{Monomial}

-- a polynomial, and the signs that it may have
pub record Condition : Type 0 where
  pub poly : List Monomial
  pub signs : Signs

-- the condition on this polynomial with this set
abbrev pub condition : List Monomial → Signs → Condition
condition P S = record { poly = P; signs = S }
