-- The simplified form of a formula under facts: one pass over its tree. docs/METHOD.md has its steps in words.
-- Source: this project's own.
use Rattle.std.specs.Prelude.{Bool, true, false, List, [], ◌∷◌, ◌++◌, Option, None, Some}
use Rattle.std.specs.Option.{option_and_then}
use Rattle.theory_formula.specs.declared.signs.Signs.{Signs}
use Rattle.theory_polynomial.specs.Terms.{Monomial}
use Rattle.theory_formula.specs.Formula.{Formula, Formulas, always, never, atom, conjunction, disjunction, none, more}
use Rattle.theory_formula.specs.SignCondition.{decided}
use Rattle.theory_elimination.specs.Facts.{Facts}
pub use Rattle.theory_elimination.specs.Members.{Part, Waiting, settled, condition, other, put_together, with_condition, gathered_behind, undecided, gathered, as_part, spliced, members_under, as_formula, first_ones, list_of, bundled, finished}
pub use Rattle.theory_elimination.specs.Judging.{as_judged, by_facts, with_conditions, facts_within, left_open, Judging, by_known}

-- members that are judged, simplified under more facts, spliced and put together once more
abbrev pub simplified_list_by : Judging → Bool → Facts → List Waiting → Formula
simplified_list_by J all K ps =
    finished all (option_and_then (λ qs. gathered all (members_under all (facts_within all qs K) qs)) (J.open_members all K ps))

-- the members of nested lists of one kind as one list, and of the other kind as members that wait for facts
abbrev mutual
  pub parts_by : Judging → Bool → Formula → List Waiting
  parts_by J all always = settled true ∷ []
  parts_by J all never = settled false ∷ []
  parts_by J all (atom P S) = condition P S ∷ []
  parts_by J true (conjunction Fs) = all_parts_by J true Fs
  parts_by J true (disjunction Fs) = other (λ K. simplified_list_by J false K (all_parts_by J false Fs)) ∷ []
  parts_by J false (conjunction Fs) = other (λ K. simplified_list_by J true K (all_parts_by J true Fs)) ∷ []
  parts_by J false (disjunction Fs) = all_parts_by J false Fs

  pub all_parts_by : Judging → Bool → Formulas → List Waiting
  all_parts_by J all none = []
  all_parts_by J all (more F Fs) = parts_by J all F ++ all_parts_by J all Fs

-- an atom decided by the facts, if they decide it
abbrev pub as_known : List Monomial → Signs → Option Bool → Formula
as_known P S None = atom P S
as_known P S (Some b) = decided b

-- the simplified form under facts
abbrev pub simplified_by : Judging → Facts → Formula → Formula
simplified_by J K always = always
simplified_by J K never = never
simplified_by J K (atom P S) = as_known P S (J.alone K P S)
simplified_by J K (conjunction Fs) = simplified_list_by J true K (all_parts_by J true Fs)
simplified_by J K (disjunction Fs) = simplified_list_by J false K (all_parts_by J false Fs)

-- a list by the facts alone
abbrev pub simplified_list : Bool → Facts → List Waiting → Formula
simplified_list all K ps = simplified_list_by by_known all K ps

-- the members of a formula by the facts alone
abbrev pub parts_of : Bool → Formula → List Waiting
parts_of all F = parts_by by_known all F

-- the members of formulas by the facts alone
abbrev pub all_parts_of : Bool → Formulas → List Waiting
all_parts_of all Fs = all_parts_by by_known all Fs

-- the simplified form by the facts alone
abbrev pub simplified_under : Facts → Formula → Formula
simplified_under K F = simplified_by by_known K F

-- the simplified form
abbrev pub simplified : Formula → Formula
simplified F = simplified_under [] F
