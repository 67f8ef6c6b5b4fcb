-- A simplified form that isn't decided has an atom: no list in it is empty, and no member of a list is decided.
use Rattle.std.proofs.Common.{◌≢◌, refl, inl, Bool, true, false, not, List, [], ◌∷◌, ◌++◌, Option, None, Some}
use Rattle.std.specs.Prelude.{if◌then◌else◌, map}
use Rattle.std.specs.List.{list_any}
use Rattle.std.specs.Bool.{beq}
use Rattle.std.specs.Option.{option_map, option_and_then}
use Rattle.theory_formula.specs.declared.signs.Signs.{Signs}
use Rattle.theory_polynomial.specs.Terms.{Monomial}
use Rattle.theory_formula.specs.Formula.{Formula, Formulas, always, never, atom, conjunction, disjunction, none, more, formulas_list, formulas_from}
use Rattle.theory_formula.specs.SignCondition.{decided}
use Rattle.theory_formula.specs.Symbols.{SomeAtom, SomeAtomAmong}
use Rattle.theory_elimination.specs.SameFormula.{is_same_poly, is_same}
use Rattle.theory_elimination.specs.Facts.{Facts, judged}
use Rattle.theory_elimination.specs.Simplified.{Part, Waiting, settled, condition, other, put_together, with_condition, gathered_behind, undecided, gathered, as_judged, by_facts, facts_within, as_part, spliced, members_under, as_formula, first_ones, list_of, bundled, finished, left_open, as_known, Judging, simplified_by, simplified_list_by, parts_by, all_parts_by}
use Rattle.theory_signed.specs.PossibleSigns.{judged_by_signs}
use Rattle.theory_signed.specs.Signed.{by_signs, facts_beside, open_by_signs}
use Rattle.theory_signed.specs.Reduced.{IsUndecided, AreUndecided, IsReduced, AreMore}
use Rattle.theory_signed.specs.ByKind.{judging, prepared, simplified_for}
use Rattle.theory_meaning.specs.declared.words.Kind.{Kind}
use Rattle.theory_meaning.specs.declared.words.Kind.TheVariants as kind

abbrev EachUndecided : List Formula → Type 0
EachUndecided [] = Unit {0}
EachUndecided (F ∷ Fs) = IsUndecided F × EachUndecided Fs

-- parts, where D says whether decided ones are allowed
module _ {X : Type 0} (D : Type 0) (R : X → Type 0) where
  abbrev OfPart : Part X → Type 0
  OfPart (settled b) = D
  OfPart (condition P S) = Unit {0}
  OfPart (other x) = R x

  abbrev OfParts : List (Part X) → Type 0
  OfParts [] = Unit {0}
  OfParts (m ∷ ms) = OfPart m × OfParts ms

  abbrev OfSome : Option (List (Part X)) → Type 0
  OfSome None = Unit {0}
  OfSome (Some ms) = OfParts ms

  of_append : (ms ns : List (Part X)) → OfParts ms → OfParts ns → OfParts (ms ++ ns)
  of_append [] ns h k = k
  of_append (m ∷ ms) ns h k = (h.0, of_append ms ns h.1 k)

  of_mapped : (m : Part X) (o : Option (List (Part X))) → OfPart m → OfSome o → OfSome (option_map (λ qs. m ∷ qs) o)
  of_mapped m None h k = tt
  of_mapped m (Some qs) h k = (h, k)

  of_met : (P : List Monomial) (o : Option Signs) (ms : List (Part X)) → OfParts ms → OfSome (option_map (λ T. condition P T ∷ ms) o)
  of_met P None ms k = tt
  of_met P (Some T) ms k = (tt, k)

  of_condition : (all : Bool) (P : List Monomial) (S : Signs) (ms : List (Part X)) → OfParts ms → OfSome (with_condition all P S ms)
  of_condition all P S [] h = (tt, tt)
  of_condition all P S (settled b ∷ ms) h = of_mapped (settled b) (with_condition all P S ms) h.0 (of_condition all P S ms h.1)
  of_condition all P S (other x ∷ ms) h = of_mapped (other x) (with_condition all P S ms) h.0 (of_condition all P S ms h.1)
  of_condition all P S (condition O T ∷ ms) h =
      elim (is_same_poly O P) as (λ b. OfSome (if b then option_map (λ R. condition O R ∷ ms) (put_together all T S)
      else option_map (λ qs. condition O T ∷ qs) (with_condition all P S ms))) [
        | true ↦ of_met O (put_together all T S) ms h.1
        | false ↦ of_mapped (condition O T) (with_condition all P S ms) tt (of_condition all P S ms h.1)
      ]

  of_then : (f : List (Part X) → Option (List (Part X))) (o : Option (List (Part X))) → ((ms : List (Part X)) → OfParts ms → OfSome (f ms)) → OfSome o
      → OfSome (option_and_then f o)
  of_then f None k h = tt
  of_then f (Some ms) k h = k ms h

  of_gathered_behind : (all : Bool) (done ms : List (Part X)) → OfParts done → OfParts ms → OfSome (gathered_behind all done ms)
  of_gathered_behind all done [] d h = d
  of_gathered_behind all done (condition P S ∷ ms) d h =
      of_then (λ qs. gathered_behind all qs ms) (with_condition all P S done) (λ qs k. of_gathered_behind all qs ms k h.1)
      (of_condition all P S done d)
  of_gathered_behind all done (settled b ∷ ms) d h =
      of_gathered_behind all (done ++ settled b ∷ []) ms (of_append done (settled b ∷ []) d (h.0, tt)) h.1
  of_gathered_behind all done (other x ∷ ms) d h = of_gathered_behind all (done ++ other x ∷ []) ms (of_append done (other x ∷ []) d (h.0, tt)) h.1

module _ {X : Type 0} (R : X → Type 0) where
  -- decided members are left out
  none_settled : (all : Bool) (ms : List (Part X)) → OfParts (Unit {0}) R ms → OfSome ⊥ R (undecided all ms)
  none_settled all [] h = tt
  none_settled all (settled b ∷ ms) h =
      elim (beq b all) as (λ c. OfSome ⊥ R (if c then undecided all ms else None)) [ true ↦ none_settled all ms h.1 | false ↦ tt ]
  none_settled all (condition P S ∷ ms) h = of_mapped ⊥ R (condition P S) (undecided all ms) tt (none_settled all ms h.1)
  none_settled all (other x ∷ ms) h = of_mapped ⊥ R (other x) (undecided all ms) h.0 (none_settled all ms h.1)

  then_none_settled : (all : Bool) (o : Option (List (Part X))) → OfSome (Unit {0}) R o → OfSome ⊥ R (option_and_then (undecided all) o)
  then_none_settled all None h = tt
  then_none_settled all (Some ms) h = none_settled all ms h

  none_settled_gathered : (all : Bool) (ms : List (Part X)) → OfParts (Unit {0}) R ms → OfSome ⊥ R (gathered all ms)
  none_settled_gathered all ms h = then_none_settled all (gathered_behind all [] ms) (of_gathered_behind (Unit {0}) R all [] ms tt h)

  of_judged : (P : List Monomial) (S : Signs) (o : Option Bool) → OfPart (Unit {0}) R (as_judged P S o)
  of_judged P S None = tt
  of_judged P S (Some b) = tt

  of_facts : (K : Facts) (ms : List (Part X)) → OfParts ⊥ R ms → OfParts (Unit {0}) R (map (by_facts K) ms)
  of_facts K [] h = tt
  of_facts K (settled b ∷ ms) h = (tt, of_facts K ms h.1)
  of_facts K (condition P S ∷ ms) h = (of_judged P S (judged K P S), of_facts K ms h.1)
  of_facts K (other x ∷ ms) h = (h.0, of_facts K ms h.1)

  then_facts : (all : Bool) (K : Facts) (o : Option (List (Part X))) → OfSome ⊥ R o
      → OfSome ⊥ R (option_and_then (λ qs. undecided all (map (by_facts K) qs)) o)
  then_facts all K None h = tt
  then_facts all K (Some ms) h = none_settled all (map (by_facts K) ms) (of_facts K ms h)

abbrev Waits : (Facts → Formula) → Type 0
Waits f = (K : Facts) → IsReduced (f K)

of_undecided : (F : Formula) → IsUndecided F → OfPart (Unit {0}) IsUndecided (as_part F)
of_undecided always h = tt
of_undecided never h = tt
of_undecided (atom P S) h = tt
of_undecided (conjunction Fs) h = h
of_undecided (disjunction Fs) h = h

of_more : (Fs : Formulas) → AreMore Fs → OfParts (Unit {0}) IsUndecided (map as_part (formulas_list Fs))
of_more none h = tt
of_more (more F Fs) h = (of_undecided F h.0, of_more Fs h.1)

of_members : (Fs : Formulas) → AreUndecided Fs → OfParts (Unit {0}) IsUndecided (map as_part (formulas_list Fs))
of_members none h = tt
of_members (more F Fs) h = (of_undecided F h.0, of_more Fs h.1)

of_spliced : (all : Bool) (F : Formula) → IsReduced F → OfParts (Unit {0}) IsUndecided (spliced all F)
of_spliced true (conjunction Fs) h = of_members Fs h
of_spliced false (disjunction Fs) h = of_members Fs h
of_spliced true always h = (tt, tt)
of_spliced true never h = (tt, tt)
of_spliced true (atom P S) h = (tt, tt)
of_spliced true (disjunction Fs) h = (h, tt)
of_spliced false always h = (tt, tt)
of_spliced false never h = (tt, tt)
of_spliced false (atom P S) h = (tt, tt)
of_spliced false (conjunction Fs) h = (h, tt)

of_under : (all : Bool) (K : Facts) (ms : List Waiting) → OfParts ⊥ Waits ms → OfParts (Unit {0}) IsUndecided (members_under all K ms)
of_under all K [] h = tt
of_under all K (settled b ∷ ms) h = (tt, of_under all K ms h.1)
of_under all K (condition P S ∷ ms) h = (tt, of_under all K ms h.1)
of_under all K (other f ∷ ms) h =
    of_append (Unit {0}) IsUndecided (spliced all (f K)) (members_under all K ms) (of_spliced all (f K) (h.0 K)) (of_under all K ms h.1)

as_formulas : (ms : List (Part Formula)) → OfParts ⊥ IsUndecided ms → EachUndecided (map as_formula ms)
as_formulas [] h = tt
as_formulas (settled b ∷ ms) h = absurd h.0
as_formulas (condition P S ∷ ms) h = (tt, as_formulas ms h.1)
as_formulas (other F ∷ ms) h = (h.0, as_formulas ms h.1)

first_undecided : (seen Fs : List Formula) → EachUndecided Fs → EachUndecided (first_ones seen Fs)
first_undecided seen [] h = tt
first_undecided seen (F ∷ Fs) h =
    elim (list_any (is_same F) seen) as (λ b. EachUndecided (if b then first_ones seen Fs else F ∷ first_ones (F ∷ seen) Fs)) [
      | true ↦ first_undecided seen Fs h.1
      | false ↦ (h.0, first_undecided (F ∷ seen) Fs h.1)
    ]

from_undecided : (Fs : List Formula) → EachUndecided Fs → AreMore (formulas_from Fs)
from_undecided [] h = tt
from_undecided (F ∷ Fs) h = (h.0, from_undecided Fs h.1)

undecided_reduced : (F : Formula) → IsUndecided F → IsReduced F
undecided_reduced always h = tt
undecided_reduced never h = tt
undecided_reduced (atom P S) h = tt
undecided_reduced (conjunction Fs) h = h
undecided_reduced (disjunction Fs) h = h

decided_reduced : (b : Bool) → IsReduced (decided b)
decided_reduced true = tt
decided_reduced false = tt

list_reduced : (all : Bool) (Fs : Formulas) → AreUndecided Fs → IsReduced (list_of all Fs)
list_reduced true Fs h = h
list_reduced false Fs h = h

bundled_reduced : (all : Bool) (Fs : List Formula) → EachUndecided Fs → IsReduced (bundled all Fs)
bundled_reduced all [] h = decided_reduced all
bundled_reduced all (F ∷ []) h = undecided_reduced F h.0
bundled_reduced all (F ∷ G ∷ Fs) h = list_reduced all (formulas_from (F ∷ G ∷ Fs)) (h.0, from_undecided (G ∷ Fs) h.1)

finished_reduced : (all : Bool) (o : Option (List (Part Formula))) → OfSome ⊥ IsUndecided o → IsReduced (finished all o)
finished_reduced all None h = decided_reduced (not all)
finished_reduced all (Some ms) h = bundled_reduced all (first_ones [] (map as_formula ms)) (first_undecided [] (map as_formula ms) (as_formulas ms h))

then_reduced : (all : Bool) (K : Facts) (o : Option (List Waiting)) → OfSome ⊥ Waits o
    → OfSome ⊥ IsUndecided (option_and_then (λ qs. gathered all (members_under all (facts_within all qs K) qs)) o)
then_reduced all K None h = tt
then_reduced all K (Some ms) h =
    none_settled_gathered IsUndecided all (members_under all (facts_within all ms K) ms) (of_under all (facts_within all ms K) ms h)

-- a way to judge that leaves no decided member
pub record LeavesNone (J : Judging) : Type 0 where
  pub opens : (all : Bool) (K : Facts) (ms : List Waiting) → OfParts (Unit {0}) Waits ms → OfSome ⊥ Waits (J.open_members all K ms)

known_opens : (all : Bool) (K : Facts) (ms : List Waiting) → OfParts (Unit {0}) Waits ms → OfSome ⊥ Waits (left_open all K ms)
known_opens all K ms h = then_facts Waits all K (gathered all ms) (none_settled_gathered Waits all ms h)

of_signs : {X : Type 0} (R : X → Type 0) (K : Facts) (ms : List (Part X)) → OfParts ⊥ R ms → OfParts (Unit {0}) R (map (by_signs K) ms)
of_signs R K [] h = tt
of_signs R K (settled b ∷ ms) h = absurd h.0
of_signs R K (condition P S ∷ ms) h = (of_judged R P S (judged_by_signs K P S), of_signs R K ms h.1)
of_signs R K (other x ∷ ms) h = (h.0, of_signs R K ms h.1)

then_signs : (all : Bool) (K : Facts) (o : Option (List Waiting)) → OfSome ⊥ Waits o → OfSome ⊥ Waits (option_and_then (open_by_signs all K) o)
then_signs all K None h = tt
then_signs all K (Some ms) h = none_settled Waits all (map (by_signs (facts_beside all ms K)) ms) (of_signs Waits (facts_beside all ms K) ms h)

leaves_none : (k : Kind) → LeavesNone (judging k)
leaves_none kind.Listed = record { opens = known_opens }
leaves_none kind.Rare = record { opens = known_opens }
leaves_none kind.Unit = record { opens = known_opens }
leaves_none kind.Signed = record { opens = λ all K ms h. then_signs all K (left_open all K ms) (known_opens all K ms h) }

simplified_reduced : (J : Judging) → LeavesNone J → (all : Bool) (K : Facts) (ms : List Waiting) → OfParts (Unit {0}) Waits ms
    → IsReduced (simplified_list_by J all K ms)
simplified_reduced J n all K ms h =
    finished_reduced all (option_and_then (λ qs. gathered all (members_under all (facts_within all qs K) qs)) (J.open_members all K ms))
    (then_reduced all K (J.open_members all K ms) (n.opens all K ms h))

mutual
  of_parts : (J : Judging) → LeavesNone J → (all : Bool) (F : Formula) → OfParts (Unit {0}) Waits (parts_by J all F)
  of_parts J n all always = (tt, tt)
  of_parts J n all never = (tt, tt)
  of_parts J n all (atom P S) = (tt, tt)
  of_parts J n true (conjunction Fs) = of_all_parts J n true Fs
  of_parts J n true (disjunction Fs) = (λ K. simplified_reduced J n false K (all_parts_by J false Fs) (of_all_parts J n false Fs), tt)
  of_parts J n false (conjunction Fs) = (λ K. simplified_reduced J n true K (all_parts_by J true Fs) (of_all_parts J n true Fs), tt)
  of_parts J n false (disjunction Fs) = of_all_parts J n false Fs

  of_all_parts : (J : Judging) → LeavesNone J → (all : Bool) (Fs : Formulas) → OfParts (Unit {0}) Waits (all_parts_by J all Fs)
  of_all_parts J n all none = tt
  of_all_parts J n all (more F Fs) =
      of_append (Unit {0}) Waits (parts_by J all F) (all_parts_by J all Fs) (of_parts J n all F) (of_all_parts J n all Fs)

known_reduced : (P : List Monomial) (S : Signs) (o : Option Bool) → IsReduced (as_known P S o)
known_reduced P S None = tt
known_reduced P S (Some b) = decided_reduced b

by_reduced : (J : Judging) → LeavesNone J → (K : Facts) (F : Formula) → IsReduced (simplified_by J K F)
by_reduced J n K always = tt
by_reduced J n K never = tt
by_reduced J n K (atom P S) = known_reduced P S (J.alone K P S)
by_reduced J n K (conjunction Fs) = simplified_reduced J n true K (all_parts_by J true Fs) (of_all_parts J n true Fs)
by_reduced J n K (disjunction Fs) = simplified_reduced J n false K (all_parts_by J false Fs) (of_all_parts J n false Fs)

pub kind_reduced : (k : Kind) (F : Formula) → IsReduced (simplified_for k F)
kind_reduced k F = by_reduced (judging k) (leaves_none k) [] (prepared k F)

-- an undecided formula has an atom
abbrev HasAtom : Formula → Type 0
HasAtom F = SomeAtom (λ P S. Unit {0}) F

mutual
  undecided_has : (F : Formula) → IsUndecided F → HasAtom F
  undecided_has always h = absurd h
  undecided_has never h = absurd h
  undecided_has (atom P S) h = tt
  undecided_has (conjunction Fs) h = some_has Fs h
  undecided_has (disjunction Fs) h = some_has Fs h

  some_has : (Fs : Formulas) → AreUndecided Fs → SomeAtomAmong (λ P S. Unit {0}) Fs
  some_has none h = absurd h
  some_has (more F Fs) h = inl (undecided_has F h.0)

pub reduced_has : (F : Formula) → IsReduced F → F ≢ always → F ≢ never → HasAtom F
reduced_has always h a n = absurd (a refl)
reduced_has never h a n = absurd (n refl)
reduced_has (atom P S) h a n = tt
reduced_has (conjunction Fs) h a n = some_has Fs h
reduced_has (disjunction Fs) h a n = some_has Fs h
