-- The members of a list of drafts as plain members, and the steps on them before they wait for facts.
use Rattle.std.specs.Prelude.{◌≡◌, ℕ, suc, Bool, true, false, List, [], ◌∷◌, ◌++◌, map, Option, None, Some, Result, Ok, Err, if◌then◌else◌}
use Rattle.std.specs.declared.vec.Vec.{Vec}
use Rattle.std.specs.Global.{Global}
use Rattle.std.specs.Option.{option_map}
use Rattle.theory_formula.specs.declared.signs.Signs.{Signs}
use Rattle.theory_polynomial.specs.Terms.{Monomial}
use Rattle.theory_formula.specs.Formula as plain
use Rattle.theory_formula.specs.Formula.{conjunction, disjunction, none, more}
use Rattle.theory_elimination.specs.SameFormula.{is_same_poly}
use Rattle.theory_elimination.specs.Facts.{Fact, Facts}
use Rattle.theory_elimination.specs.Judging.{Judging}
use Rattle.theory_elimination.specs.Simplified.{Part, Waiting, settled, condition, other, as_part, simplified_by, simplified_list_by, all_parts_by}
use Rattle.theory_signs.specs.Condition.{Condition}
use Rattle.theory_simplify.specs.declared.drafts.Draft.{Draft}
use Rattle.theory_simplify.specs.Drafts.{draft_of}

-- a draft as a member
abbrev pub part_of : Draft → Part plain.Formula
part_of D = as_part (draft_of D)

-- drafts as members, in their order
abbrev pub parts_of : List Draft → List (Part plain.Formula)
parts_of Ds = map part_of Ds

-- the drafts of a vector as members
abbrev pub parts_in : Vec Draft Global → List (Part plain.Formula)
parts_in Ds = parts_of Ds.items

-- an atom as a fact
abbrev pub fact_of : Condition → Fact
fact_of a = record { poly = a.poly; signs = a.signs }

-- atoms as facts, in their order
abbrev pub facts_of : List Condition → Facts
facts_of known = map fact_of known

-- a list waits for facts
abbrev pub waiting_part : Judging → Part plain.Formula → Waiting
waiting_part J (settled b) = settled b
waiting_part J (condition P S) = condition P S
waiting_part J (other F) = other (λ K. simplified_by J K F)

-- each list among the members waits for facts
abbrev pub waiting : Judging → List (Part plain.Formula) → List Waiting
waiting J ps = map (waiting_part J) ps

-- a list simplified under facts; what is no list stands
abbrev pub member_form : Judging → Facts → plain.Formula → plain.Formula
member_form J K (conjunction Fs) = simplified_list_by J true K (all_parts_by J true Fs)
member_form J K (disjunction Fs) = simplified_list_by J false K (all_parts_by J false Fs)
member_form J K F = F

-- the members of nested lists of one kind as one list
abbrev mutual
  pub flat_parts : Bool → plain.Formula → List (Part plain.Formula)
  flat_parts true (conjunction Fs) = all_flat_parts true Fs
  flat_parts false (disjunction Fs) = all_flat_parts false Fs
  flat_parts all F = as_part F ∷ []

  pub all_flat_parts : Bool → plain.Formulas → List (Part plain.Formula)
  all_flat_parts all none = []
  all_flat_parts all (more F Fs) = flat_parts all F ++ all_flat_parts all Fs

-- the set of an atom of the polynomial
abbrev pub condition_on : List Monomial → Part plain.Formula → Option Signs
condition_on P (condition Q S) = if is_same_poly Q P then Some S else None
condition_on P (settled b) = None
condition_on P (other F) = None

-- a set at the first place, or what is found at a later one
abbrev pub first_or : Option Signs → Option (ℕ × Signs) → Option (ℕ × Signs)
first_or (Some S) later = Some (0, S)
first_or None later = option_map (λ h. (suc h.0, h.1)) later

-- the place of the first atom of the polynomial, and its set
abbrev pub held_at : List Monomial → List (Part plain.Formula) → Option (ℕ × Signs)
held_at P [] = None
held_at P (p ∷ ps) = first_or (condition_on P p) (held_at P ps)

-- the place of the first fact on the polynomial, and its set
abbrev pub known_at : List Monomial → Facts → Option (ℕ × Signs)
known_at P [] = None
known_at P (f ∷ K) = first_or (if is_same_poly f.poly P then Some f.signs else None) (known_at P K)

-- the truth of a settled member
abbrev pub settled_truth : Part plain.Formula → Option Bool
settled_truth (settled b) = Some b
settled_truth (condition P S) = None
settled_truth (other F) = None

-- the members of a list of the kind, and else the formula itself
abbrev pub opened : Bool → plain.Formula → Result plain.Formulas plain.Formula
opened true (conjunction Fs) = Ok Fs
opened false (disjunction Fs) = Ok Fs
opened all F = Err F

-- the same of results
abbrev pub IsOpened : Bool → plain.Formula → Result (Vec Draft Global) Draft → Type 0
IsOpened all F (Ok Ds) = opened all F ≡ Ok (plain.formulas_from (map draft_of Ds.items))
IsOpened all F (Err D) = opened all F ≡ Err (draft_of D)

-- a list that was made has these members, and there is none where the whole is decided
abbrev pub AreParts : Option (List (Part plain.Formula)) → Option (Vec Draft Global) → Type 0
AreParts wanted None = wanted ≡ None
AreParts wanted (Some Ds) = wanted ≡ Some (parts_of Ds.items)

-- whether an atom was put in, so that these are the members, or decides the whole
abbrev pub IsPutIn : Option (List (Part plain.Formula)) → List Draft → Bool → Type 0
IsPutIn wanted Ds true = wanted ≡ Some (parts_of Ds)
IsPutIn wanted Ds false = wanted ≡ None
