-- Slope and base of an atom, and whether the slope has symbols.
use Rattle.std.proofs.Common.{ℕ, ◌<◌, List}
use Rattle.theory_polynomial.specs.Polynomial.{Monomial, IsPolynomial, IsLinearIn, IsSplit}
use Rattle.theory_subst.specs.Equations.{IsLine}
use Rattle.theory_subst.proofs.SplitLemmas.{split_is}

-- a split of a polynomial gives its slope and base
pub line_is : (x : ℕ) (P a b : List Monomial) → x < 32 → IsPolynomial P → IsLinearIn x P → IsPolynomial a → IsPolynomial b → IsSplit x P a b → IsLine x P a b
line_is x P a b l h linear ha hb split =
    let found = split_is x P a b l h linear ha hb split in record { slope_is = found.0; base_is = found.1 }
