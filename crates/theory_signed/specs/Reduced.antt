-- Formulas that are decided, or in which no list is empty and no member decided.
use Rattle.theory_formula.specs.Formula.{Formula, Formulas, always, never, atom, conjunction, disjunction, none, more}

-- an atom, or a list of such formulas that isn't empty
abbrev mutual
  pub IsUndecided : Formula → Type 0
  IsUndecided always = ⊥
  IsUndecided never = ⊥
  IsUndecided (atom P S) = Unit {0}
  IsUndecided (conjunction Fs) = AreUndecided Fs
  IsUndecided (disjunction Fs) = AreUndecided Fs

  pub AreUndecided : Formulas → Type 0
  AreUndecided none = ⊥
  AreUndecided (more F Fs) = IsUndecided F × AreMore Fs

  pub AreMore : Formulas → Type 0
  AreMore none = Unit {0}
  AreMore (more F Fs) = IsUndecided F × AreMore Fs

-- always, never, or such a formula
abbrev pub IsReduced : Formula → Type 0
IsReduced always = Unit {0}
IsReduced never = Unit {0}
IsReduced (atom P S) = Unit {0}
IsReduced (conjunction Fs) = AreUndecided Fs
IsReduced (disjunction Fs) = AreUndecided Fs
