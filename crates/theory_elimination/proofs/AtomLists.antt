-- Facts of all atoms of a formula, as a tree and as a list; what is true under one reading and another.
use Rattle.std.proofs.Common.{◌≡◌, ℕ, List, [], ◌∷◌, ◌++◌, sym, ap, subst}
use Rattle.std.specs.Prelude.{IsTrue}
use Rattle.theory_meaning.specs.Fraction.{Fraction}
use Rattle.theory_meaning.proofs.OrderLaws.{same_itself}
use Rattle.theory_formula.specs.declared.signs.Signs.{Signs}
use Rattle.theory_formula.specs.Signs.{has}
use Rattle.theory_polynomial.specs.Polynomial.{Monomial}
use Rattle.theory_polynomial.specs.PolynomialValue.{Values, symbol_at}
use Rattle.theory_formula.specs.Formula.{Formula, Formulas, always, never, atom, conjunction, disjunction, none, more, Reading, truth_at, truth_by, reading_at, EachAtom, EachAtomOfAll, StaysTrue}
use Rattle.theory_formula.specs.FormulaAtoms.{atoms_of, atoms_of_all}
use Rattle.theory_formula.proofs.FormulaLaws.{kept}
use Rattle.theory_elimination.specs.Elimination.{with_value, IsLinearAtom, IsLinear}
use Rattle.theory_elimination.proofs.Cuts.{on}
use Rattle.theory_elimination.proofs.LineSigns.{sign_is_on_line, sign_with_value}
use Rattle.theory_elimination.proofs.SubstitutedTruth.{reading_cut}

abbrev pub Row : Type 0
Row = List Monomial × Signs

-- a fact of each row
abbrev pub EachRow : (List Monomial → Signs → Type 0) → List Row → Type 0
EachRow Q [] = Unit {0}
EachRow Q (a ∷ rows) = Q a.0 a.1 × EachRow Q rows

module _ (Q : List Monomial → Signs → Type 0) where
  rows_append : (rows more_rows : List Row) → EachRow Q rows → EachRow Q more_rows → EachRow Q (rows ++ more_rows)
  rows_append [] more_rows h k = k
  rows_append (a ∷ rows) more_rows h k = (h.0, rows_append rows more_rows h.1 k)

  rows_first : (rows more_rows : List Row) → EachRow Q (rows ++ more_rows) → EachRow Q rows
  rows_first [] more_rows h = tt
  rows_first (a ∷ rows) more_rows h = (h.0, rows_first rows more_rows h.1)

  rows_rest : (rows more_rows : List Row) → EachRow Q (rows ++ more_rows) → EachRow Q more_rows
  rows_rest [] more_rows h = h
  rows_rest (a ∷ rows) more_rows h = rows_rest rows more_rows h.1

  mutual
    pub rows_of_atoms : (F : Formula) → EachAtom Q F → EachRow Q (atoms_of F)
    rows_of_atoms always h = tt
    rows_of_atoms never h = tt
    rows_of_atoms (atom P S) h = (h, tt)
    rows_of_atoms (conjunction Fs) h = rows_of_all Fs h
    rows_of_atoms (disjunction Fs) h = rows_of_all Fs h

    rows_of_all : (Fs : Formulas) → EachAtomOfAll Q Fs → EachRow Q (atoms_of_all Fs)
    rows_of_all none h = tt
    rows_of_all (more F Fs) h = rows_append (atoms_of F) (atoms_of_all Fs) (rows_of_atoms F h.0) (rows_of_all Fs h.1)

  mutual
    pub atoms_of_rows : (F : Formula) → EachRow Q (atoms_of F) → EachAtom Q F
    atoms_of_rows always h = tt
    atoms_of_rows never h = tt
    atoms_of_rows (atom P S) h = h.0
    atoms_of_rows (conjunction Fs) h = all_of_rows Fs h
    atoms_of_rows (disjunction Fs) h = all_of_rows Fs h

    all_of_rows : (Fs : Formulas) → EachRow Q (atoms_of_all Fs) → EachAtomOfAll Q Fs
    all_of_rows none h = tt
    all_of_rows (more F Fs) h =
        (atoms_of_rows F (rows_first (atoms_of F) (atoms_of_all Fs) h), all_of_rows Fs (rows_rest (atoms_of F) (atoms_of_all Fs) h))

-- what follows from a fact of each atom
mutual
  pub each_follows : (Q R : List Monomial → Signs → Type 0) (F : Formula) → ((P : List Monomial) (S : Signs) → Q P S → R P S) → EachAtom Q F → EachAtom R F
  each_follows Q R always f h = tt
  each_follows Q R never f h = tt
  each_follows Q R (atom P S) f h = f P S h
  each_follows Q R (conjunction Fs) f h = all_follow Q R Fs f h
  each_follows Q R (disjunction Fs) f h = all_follow Q R Fs f h

  all_follow : (Q R : List Monomial → Signs → Type 0) (Fs : Formulas) → ((P : List Monomial) (S : Signs) → Q P S → R P S) →
      EachAtomOfAll Q Fs → EachAtomOfAll R Fs
  all_follow Q R none f h = tt
  all_follow Q R (more F Fs) f h = (each_follows Q R F f h.0, all_follow Q R Fs f h.1)

-- readings that agree on linear atoms
pub same_reading : (x : ℕ) (r s : Reading) (F : Formula) → ((P : List Monomial) (S : Signs) → IsLinearAtom x P S → r P S ≡ s P S) → IsLinear x F
    → IsTrue (truth_by r F) → IsTrue (truth_by s F)
same_reading x r s F f h = kept F r s (each_follows (IsLinearAtom x) (StaysTrue r s) F (λ P S k t. subst IsTrue (f P S k) t) h)

-- at a point a formula has the truth that it has at the symbol's own value
own_atom : (x : ℕ) (p : Values) (P : List Monomial) (S : Signs) → IsLinearAtom x P S → reading_at p P S ≡ reading_cut x p (on (symbol_at x p)) P S
own_atom x p P S h = ap (has S) (sign_is_on_line x (symbol_at x p) P p h.linear (same_itself (symbol_at x p)))

pub at_own_value : (x : ℕ) (p : Values) (F : Formula) → IsLinear x F → IsTrue (truth_at F p) → IsTrue (truth_by (reading_cut x p (on (symbol_at x p))) F)
at_own_value x p F h t = same_reading x (reading_at p) (reading_cut x p (on (symbol_at x p))) F (own_atom x p) h t

-- and where the symbol has another value, the truth at that one
with_value_atom : (x : ℕ) (p : Values) (v : Fraction) (P : List Monomial) (S : Signs) → IsLinearAtom x P S
    → reading_cut x p (on v) P S ≡ reading_at (with_value x v p) P S
with_value_atom x p v P S h = ap (has S) (sym (sign_with_value x v P p h.linear))

pub at_given_value : (x : ℕ) (p : Values) (v : Fraction) (F : Formula) → IsLinear x F → IsTrue (truth_by (reading_cut x p (on v)) F)
    → IsTrue (truth_at F (with_value x v p))
at_given_value x p v F h t = same_reading x (reading_cut x p (on v)) (reading_at (with_value x v p)) F (with_value_atom x p v) h t
