-- The atoms of a formula.
use Rattle.std.specs.Prelude.{List, [], ◌∷◌, ◌++◌}
use Rattle.theory_formula.specs.declared.signs.Signs.{Signs}
use Rattle.theory_polynomial.specs.Polynomial.{Monomial}
use Rattle.theory_formula.specs.Formula.{Formula, Formulas, always, never, atom, conjunction, disjunction, none, more}

-- the atoms in reading order
abbrev mutual
  pub atoms_of : Formula → List (List Monomial × Signs)
  atoms_of always = []
  atoms_of never = []
  atoms_of (atom P S) = (P, S) ∷ []
  atoms_of (conjunction Fs) = atoms_of_all Fs
  atoms_of (disjunction Fs) = atoms_of_all Fs

  pub atoms_of_all : Formulas → List (List Monomial × Signs)
  atoms_of_all none = []
  atoms_of_all (more F Fs) = atoms_of F ++ atoms_of_all Fs
