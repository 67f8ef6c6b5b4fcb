-- A formula with each atom split: its symbols of even common exponent apart, and one of odd common exponent by its sign.
-- Source: this project's own.
use Rattle.std.specs.Prelude.{ℕ, if◌then◌else◌, List, [], ◌∷◌, ◌++◌, map, Option, None, Some}
use Rattle.theory_meaning.specs.declared.words.Sign.TheVariants.{Zero}
use Rattle.theory_formula.specs.declared.signs.Signs.{Signs}
use Rattle.theory_formula.specs.declared.signs.Signs.TheVariants as set
use Rattle.theory_formula.specs.Signs.{has, mirror}
use Rattle.theory_polynomial.specs.Polynomial.{IsPolynomial, Monomial, symbol_of}
use Rattle.theory_formula.specs.Formula.{Formula, Formulas, always, never, atom, conjunction, disjunction, none, more, both, formulas_from, sign_at, EachAtom}
use Rattle.theory_formula.specs.SignCondition.{decided}
use Rattle.theory_elimination.specs.TestPoint.{is_constant}
use Rattle.theory_signed.specs.CommonPowers.{common_powers, without_powers, with_powers, odd_part, squares_from, crossing_from, all_but}

-- the condition on a canonical polynomial, or on a whole number, which is decided by its sign at any point
abbrev pub condition_on : List Monomial → Signs → Formula
condition_on P S = if is_constant P then decided (has S (sign_at P [])) else atom P S

-- the condition on a symbol
abbrev pub symbol_is : Signs → ℕ → Formula
symbol_is S x = atom (symbol_of x) S

-- that the symbol is zero, where zero is in the set
abbrev pub or_zero : ℕ → Signs → List Formula
or_zero x S = if has S Zero then symbol_is set.Zero x ∷ [] else []

-- the condition on a symbol times a polynomial, by the sign of the symbol
abbrev pub crossed : ℕ → List Monomial → Signs → Formula
crossed x Q S =
    disjunction (formulas_from (both (symbol_is set.Pos x) (condition_on Q S) ∷ both (symbol_is set.Neg x) (condition_on Q (mirror S)) ∷ or_zero x S))

-- the condition on powers times a sum of terms, by the sign of a symbol with exponent 1, if there is one to take
abbrev pub split_by : Option ℕ → List ℕ → List Monomial → Signs → Formula
split_by None e ts S = condition_on (with_powers e ts) S
split_by (Some x) e ts S = crossed x (with_powers (all_but x e) ts) S

-- by the first symbol of common exponent 1 that has a higher degree
abbrev pub split_once : List ℕ → List Monomial → Signs → Formula
split_once e ts S = split_by (crossing_from 0 e (with_powers e ts)) e ts S

-- a condition on what is left when squares of symbols are out, with conditions on these symbols, if there are some
abbrev pub with_squares : List ℕ → Signs → Formula → Formula
with_squares [] S F = F
with_squares (x ∷ xs) S F =
    if has S Zero then disjunction (formulas_from (map (symbol_is set.Zero) (x ∷ xs) ++ F ∷ []))
    else conjunction (formulas_from (map (symbol_is set.NonZero) (x ∷ xs) ++ F ∷ []))

-- an atom split: of each common exponent 1 stays where it is odd, and nothing where it is even
abbrev pub split_atom : List Monomial → Signs → Formula
split_atom P S =
    with_squares (squares_from 0 (common_powers P)) S (split_once (map odd_part (common_powers P)) (without_powers (common_powers P) P) S)

-- each atom split
abbrev mutual
  pub split : Formula → Formula
  split always = always
  split never = never
  split (atom P S) = split_atom P S
  split (conjunction Fs) = conjunction (split_all Fs)
  split (disjunction Fs) = disjunction (split_all Fs)

  pub split_all : Formulas → Formulas
  split_all none = none
  split_all (more F Fs) = more (split F) (split_all Fs)

-- each atom is on a polynomial: terms in the fixed order, without zeros
abbrev pub IsOrdered : Formula → Type 0
IsOrdered F = EachAtom (λ P S. IsPolynomial P) F
