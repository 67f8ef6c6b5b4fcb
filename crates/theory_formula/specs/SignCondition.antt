-- The sign condition on a polynomial as a formula: decided for a whole number, else on the canonical polynomial.
-- Source: this project's own.
use Rattle.std.specs.Prelude.{◌≡◌, ◌<◌, ◌⊎◌, Bool, true, false, List, if◌then◌else◌}
use Rattle.theory_formula.specs.declared.signs.Signs.{Signs}
use Rattle.theory_polynomial.specs.Polynomial.{Monomial, coefficient_at, no_powers, greatest_exponent_of, IsCanonical, IsCanonicalOf}
use Rattle.theory_formula.specs.Signs.{has, mirror, sign_of_whole}
use Rattle.theory_formula.specs.Formula.{Formula, always, never, atom}

-- no symbol occurs
abbrev pub IsConstant : List Monomial → Type 0
IsConstant P = greatest_exponent_of P ≡ 0

-- some symbol occurs
abbrev pub HasSymbol : List Monomial → Type 0
HasSymbol P = 0 < greatest_exponent_of P

-- a formula that is always or never true
abbrev pub decided : Bool → Formula
decided true = always
decided false = never

-- the condition on a whole number is decided by its sign
pub record IsDecided (P : List Monomial) (S : Signs) (F : Formula) : Type 0 where
  pub constant : IsConstant P
  pub written : F ≡ decided (has S (sign_of_whole (coefficient_at P no_powers)))

-- the condition on the canonical polynomial, with the mirrored set where the sign is turned
pub record IsCanonicalAtom (P : List Monomial) (S : Signs) (F : Formula) : Type 0 where
  pub symbol : HasSymbol P
  pub turned : Bool
  pub poly : List Monomial
  pub canonical : IsCanonicalOf P turned poly
  pub written : F ≡ atom poly (if turned then mirror S else S)

-- the formula that says that the sign of the polynomial is in the set
abbrev pub IsAtomOf : List Monomial → Signs → Formula → Type 0
IsAtomOf P S F = IsDecided P S F ⊎ IsCanonicalAtom P S F

-- the polynomial of an atom is canonical, and some symbol occurs in it
pub record IsAtomPolynomial (P : List Monomial) : Type 0 where
  pub canonical : IsCanonical P
  pub symbol : HasSymbol P
