-- Formulas over symbols: sign conditions on polynomials, joined by and and or.
-- Source: textbook; the sets of signs as right sides are this project's own.
use Rattle.std.specs.Prelude.{Bool, true, false, ◌&&◌, ◌||◌, List, [], ◌∷◌, IsTrue}
use Rattle.theory_meaning.specs.declared.words.Sign.{Sign}
use Rattle.theory_formula.specs.declared.signs.Signs.{Signs}
use Rattle.theory_polynomial.specs.Polynomial.{Monomial}
use Rattle.theory_polynomial.specs.PolynomialValue.{Values, polynomial_at}
use Rattle.theory_formula.specs.Signs.{has, complement, sign_of}

-- a formula, with lists of formulas as a type beside it
mutual
  -- a formula over symbols, in which an atom says that the sign of a polynomial is in a set
  pub data Formula : Type 0 where
    always : Formula
    never : Formula
    atom : List Monomial → Signs → Formula
    conjunction : Formulas → Formula
    disjunction : Formulas → Formula

  -- the members of a conjunction or disjunction
  pub data Formulas : Type 0 where
    none : Formulas
    more : Formula → Formulas → Formulas

-- both formulas are true
abbrev pub both : Formula → Formula → Formula
both F G = conjunction (more F (more G none))

-- at least one of two formulas is true
abbrev pub either : Formula → Formula → Formula
either F G = disjunction (more F (more G none))

-- the same formulas as a list
abbrev pub formulas_list : Formulas → List Formula
formulas_list none = []
formulas_list (more F Fs) = F ∷ formulas_list Fs

-- and back
abbrev pub formulas_from : List Formula → Formulas
formulas_from [] = none
formulas_from (F ∷ Fs) = more F (formulas_from Fs)

-- which atoms are true
abbrev pub Reading : Type 0
Reading = List Monomial → Signs → Bool

-- the truth of a formula under a reading of its atoms; of a list that all are true, or that some is
abbrev mutual
  pub truth_by : Reading → Formula → Bool
  truth_by r always = true
  truth_by r never = false
  truth_by r (atom P S) = r P S
  truth_by r (conjunction Fs) = all_by r Fs
  truth_by r (disjunction Fs) = some_by r Fs

  pub all_by : Reading → Formulas → Bool
  all_by r none = true
  all_by r (more F Fs) = truth_by r F && all_by r Fs

  pub some_by : Reading → Formulas → Bool
  some_by r none = false
  some_by r (more F Fs) = truth_by r F || some_by r Fs

-- the sign of a polynomial at a point
abbrev pub sign_at : List Monomial → Values → Sign
sign_at P p = sign_of (polynomial_at P p)

-- at a point an atom is true where its set has the sign of its polynomial
abbrev pub reading_at : Values → Reading
reading_at p P S = has S (sign_at P p)

-- the truth of a formula at a point
abbrev pub truth_at : Formula → Values → Bool
truth_at F p = truth_by (reading_at p) F

-- the same as a fact
abbrev pub IsTrueAt : Formula → Values → Type 0
IsTrueAt F p = IsTrue (truth_at F p)

-- a fact of each atom
abbrev mutual
  pub EachAtom : (List Monomial → Signs → Type 0) → Formula → Type 0
  EachAtom Q always = Unit {0}
  EachAtom Q never = Unit {0}
  EachAtom Q (atom P S) = Q P S
  EachAtom Q (conjunction Fs) = EachAtomOfAll Q Fs
  EachAtom Q (disjunction Fs) = EachAtomOfAll Q Fs

  pub EachAtomOfAll : (List Monomial → Signs → Type 0) → Formulas → Type 0
  EachAtomOfAll Q none = Unit {0}
  EachAtomOfAll Q (more F Fs) = EachAtom Q F × EachAtomOfAll Q Fs

-- the atom, if it is true under the one reading, stays true under the other
abbrev pub StaysTrue : Reading → Reading → List Monomial → Signs → Type 0
StaysTrue r s P S = IsTrue (r P S) → IsTrue (s P S)

-- the opposite: every set is complemented, and and or change places
abbrev mutual
  pub negated : Formula → Formula
  negated always = never
  negated never = always
  negated (atom P S) = atom P (complement S)
  negated (conjunction Fs) = disjunction (negated_all Fs)
  negated (disjunction Fs) = conjunction (negated_all Fs)

  pub negated_all : Formulas → Formulas
  negated_all none = none
  negated_all (more F Fs) = more (negated F) (negated_all Fs)
