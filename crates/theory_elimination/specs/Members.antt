-- The members of a conjunction or disjunction: how they are put together, spliced and written as a formula again.
-- Source: this project's own.
use Rattle.std.specs.Prelude.{Bool, true, false, not, if◌then◌else◌, List, [], ◌∷◌, ◌++◌, map, Option, None, Some}
use Rattle.std.specs.Bool.{beq}
use Rattle.std.specs.List.{list_any}
use Rattle.std.specs.Option.{option_map, option_and_then}
use Rattle.theory_formula.specs.declared.signs.Signs.{Signs}
use Rattle.theory_formula.specs.Signs.{meet, join}
use Rattle.theory_polynomial.specs.Terms.{Monomial}
use Rattle.theory_formula.specs.Formula.{Formula, Formulas, always, never, atom, conjunction, disjunction, formulas_list, formulas_from}
use Rattle.theory_formula.specs.SignCondition.{decided}
use Rattle.theory_elimination.specs.SameFormula.{is_same_poly, is_same}
use Rattle.theory_elimination.specs.Facts.{Facts}

-- a member of a list of formulas: settled as true or false, an atom, or another one
pub data Part (X : Type 0) : Type 0 where
  settled : Bool → Part X
  condition : List Monomial → Signs → Part X
  other : X → Part X

-- a member that waits for facts
abbrev pub Waiting : Type 0
Waiting = Part (Facts → Formula)

-- how atoms of one polynomial are put together: in a conjunction they are met, in a disjunction joined
abbrev pub put_together : Bool → Signs → Signs → Option Signs
put_together true = meet
put_together false = join

-- an atom is put together with the one of its polynomial, at that one's place, or stands at the end; None where no sign or each sign is left
abbrev pub with_condition : {X : Type 0} → Bool → List Monomial → Signs → List (Part X) → Option (List (Part X))
with_condition all P S [] = Some (condition P S ∷ [])
with_condition all P S (condition Q T ∷ ps) =
    if is_same_poly Q P then option_map (λ R. condition Q R ∷ ps) (put_together all T S)
    else option_map (λ qs. condition Q T ∷ qs) (with_condition all P S ps)
with_condition all P S (settled b ∷ ps) = option_map (λ qs. settled b ∷ qs) (with_condition all P S ps)
with_condition all P S (other x ∷ ps) = option_map (λ qs. other x ∷ qs) (with_condition all P S ps)

-- the members behind those that are done, from left to right
abbrev pub gathered_behind : {X : Type 0} → Bool → List (Part X) → List (Part X) → Option (List (Part X))
gathered_behind all done [] = Some done
gathered_behind all done (condition P S ∷ ps) = option_and_then (λ qs. gathered_behind all qs ps) (with_condition all P S done)
gathered_behind all done (settled b ∷ ps) = gathered_behind all (done ++ settled b ∷ []) ps
gathered_behind all done (other x ∷ ps) = gathered_behind all (done ++ other x ∷ []) ps

-- the members without the settled ones that don't count; None where one decides the whole
abbrev pub undecided : {X : Type 0} → Bool → List (Part X) → Option (List (Part X))
undecided all [] = Some []
undecided all (settled b ∷ ps) = if beq b all then undecided all ps else None
undecided all (condition P S ∷ ps) = option_map (λ qs. condition P S ∷ qs) (undecided all ps)
undecided all (other x ∷ ps) = option_map (λ qs. other x ∷ qs) (undecided all ps)

-- both steps; None where the whole is settled
abbrev pub gathered : {X : Type 0} → Bool → List (Part X) → Option (List (Part X))
gathered all ps = option_and_then (undecided all) (gathered_behind all [] ps)

-- a formula as a member
abbrev pub as_part : Formula → Part Formula
as_part always = settled true
as_part never = settled false
as_part (atom P S) = condition P S
as_part (conjunction Fs) = other (conjunction Fs)
as_part (disjunction Fs) = other (disjunction Fs)

-- a simplified member, whose own members take its place where it is a list of the same kind
abbrev pub spliced : Bool → Formula → List (Part Formula)
spliced true (conjunction Fs) = map as_part (formulas_list Fs)
spliced false (disjunction Fs) = map as_part (formulas_list Fs)
spliced all F = as_part F ∷ []

-- the members, each simplified under the facts
abbrev pub members_under : Bool → Facts → List Waiting → List (Part Formula)
members_under all K [] = []
members_under all K (settled b ∷ ps) = settled b ∷ members_under all K ps
members_under all K (condition P S ∷ ps) = condition P S ∷ members_under all K ps
members_under all K (other simplify ∷ ps) = spliced all (simplify K) ++ members_under all K ps

-- a member as a formula
abbrev pub as_formula : Part Formula → Formula
as_formula (settled b) = decided b
as_formula (condition P S) = atom P S
as_formula (other F) = F

-- each formula that isn't the same as an earlier one
abbrev pub first_ones : List Formula → List Formula → List Formula
first_ones seen [] = []
first_ones seen (F ∷ Fs) = if list_any (is_same F) seen then first_ones seen Fs else F ∷ first_ones (F ∷ seen) Fs

-- all or some of the formulas
abbrev pub list_of : Bool → Formulas → Formula
list_of true Fs = conjunction Fs
list_of false Fs = disjunction Fs

-- the formulas as one: one stands for itself, and where there is none it is decided
abbrev pub bundled : Bool → List Formula → Formula
bundled all [] = decided all
bundled all (F ∷ []) = F
bundled all (F ∷ G ∷ Fs) = list_of all (formulas_from (F ∷ G ∷ Fs))

-- the formula of the members, each once; where there are none to keep the whole is decided
abbrev pub finished : Bool → Option (List (Part Formula)) → Formula
finished all None = decided (not all)
finished all (Some ps) = bundled all (first_ones [] (map as_formula ps))
