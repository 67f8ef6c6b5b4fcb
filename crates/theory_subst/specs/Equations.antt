-- The parts of an equation, and the first one of a list.
use Rattle.std.specs.Prelude.{◌≡◌, ℕ, zero, suc, ◌<◌, Bool, true, false, List, [], ◌∷◌, length, Option, None, Some}
use Rattle.theory_polynomial.specs.Polynomial.{Monomial}
use Rattle.theory_formula.specs.Formula.{Formula}
use Rattle.theory_polynomial.specs.PolynomialValue.{slope_in, base_in}
use Rattle.theory_elimination.specs.Branches.{Taken, equation_of, plain_equation_of}
use Rattle.theory_subst.specs.declared.top_equation.TopEquation.{TopEquation}

-- the polynomial of an equation in the symbol, or of one with a slope without symbols
abbrev pub equation_with : Bool → ℕ → Formula → Option (List Monomial)
equation_with true = plain_equation_of
equation_with false = equation_of

-- slope and base of a polynomial
pub record IsLine (x : ℕ) (P slope base : List Monomial) : Type 0 where
  pub slope_is : slope ≡ slope_in x P
  pub base_is : base ≡ base_in x P

-- slope and base of that polynomial, if there is one
abbrev pub ArePartsOf : ℕ → Option (List Monomial) → Option (List Monomial × List Monomial) → Type 0
ArePartsOf x None None = Unit {0}
ArePartsOf x (Some P) (Some parts) = IsLine x P parts.0 parts.1
ArePartsOf x _ _ = ⊥

-- the others of a list, without the one at a place
abbrev pub without : ℕ → List Formula → List Formula
without place [] = []
without zero (F ∷ Fs) = Fs
without (suc place) (F ∷ Fs) = F ∷ without place Fs

-- the place of an equation that is taken, with its slope and base
pub record IsFoundAt (x : ℕ) (Fs : List Formula) (t : Taken) (f : TopEquation) : Type 0 where
  pub within : f.place < length Fs
  pub line : IsLine x t.poly f.slope f.base
  pub others : t.others ≡ without f.place Fs

-- the first equation of a list, where it has one
abbrev pub IsFirst : ℕ → List Formula → Option Taken → Option TopEquation → Type 0
IsFirst x Fs None None = Unit {0}
IsFirst x Fs (Some t) (Some f) = IsFoundAt x Fs t f
IsFirst x Fs _ _ = ⊥
