-- The steps on members are the same before and after these wait for facts.
use Rattle.std.proofs.Common.{◌≡◌, Bool, true, false, List, [], ◌∷◌, ◌++◌, map, Option, None, Some, option_map, option_and_then, refl, sym, ap, ap₂, ◌∙◌, if◌then◌else◌}
use Rattle.std.specs.Bool.{beq}
use Rattle.std.proofs.lemmas.List.{map-append}
use Rattle.theory_formula.specs.declared.signs.Signs.{Signs}
use Rattle.theory_polynomial.specs.Terms.{Monomial}
use Rattle.theory_formula.specs.Formula.{Formula, Formulas, always, never, atom, conjunction, disjunction, none, more}
use Rattle.theory_elimination.specs.SameFormula.{is_same_poly}
use Rattle.theory_elimination.specs.Facts.{Facts, judged, with_fact}
use Rattle.std.specs.List.{filter}
use Rattle.theory_elimination.specs.Judging.{Judging}
use Rattle.theory_elimination.specs.Simplified.{Part, Waiting, settled, condition, other, put_together, with_condition, gathered_behind, undecided, gathered, by_facts, as_judged, with_conditions, facts_within, left_open, parts_by, all_parts_by}
use Rattle.theory_signed.specs.PossibleSigns.{is_symbol, judged_by_signs}
use Rattle.theory_signed.specs.Signed.{by_signs, is_on_symbol, facts_beside, open_by_signs}
use Rattle.theory_simplify.specs.declared.judgement.Judgement.{Judgement}
use Rattle.theory_simplify.specs.declared.judgement.Judgement.TheVariants.{ByFacts, BySigns}
use Rattle.theory_simplify.specs.Parts.{waiting_part, waiting, flat_parts, all_flat_parts}
use Rattle.theory_simplify.specs.Judged.{judging_of, open_parts, open_beside, open_for}

abbrev Parts : Type 0
Parts = List (Part Formula)

front : (J : Judging) (m : Part Formula) (o : Option Parts)
    → option_map (λ qs. waiting_part J m ∷ qs) (option_map (waiting J) o) ≡ option_map (waiting J) (option_map (λ qs. m ∷ qs) o)
front J m None = refl
front J m (Some qs) = refl

met : (J : Judging) (Q : List Monomial) (ps : Parts) (o : Option Signs)
    → option_map (λ R. condition Q R ∷ waiting J ps) o ≡ option_map (waiting J) (option_map (λ R. condition Q R ∷ ps) o)
met J Q ps None = refl
met J Q ps (Some R) = refl

condition_waits : (J : Judging) (all : Bool) (P : List Monomial) (S : Signs) (ps : Parts)
    → with_condition all P S (waiting J ps) ≡ option_map (waiting J) (with_condition all P S ps)
condition_waits J all P S [] = refl
condition_waits J all P S (settled b ∷ ps) =
    ap (option_map (λ qs. settled b ∷ qs)) (condition_waits J all P S ps) ∙ front J (settled b) (with_condition all P S ps)
condition_waits J all P S (other F ∷ ps) =
    ap (option_map (λ qs. waiting_part J (other F) ∷ qs)) (condition_waits J all P S ps) ∙ front J (other F) (with_condition all P S ps)
condition_waits J all P S (condition Q T ∷ ps) =
    elim (is_same_poly Q P) as (λ b. (if b then option_map (λ R. condition Q R ∷ waiting J ps) (put_together all T S)
    else option_map (λ qs. condition Q T ∷ qs) (with_condition all P S (waiting J ps)))
    ≡ option_map (waiting J) (if b then option_map (λ R. condition Q R ∷ ps) (put_together all T S)
    else option_map (λ qs. condition Q T ∷ qs) (with_condition all P S ps))) [
      | true ↦ met J Q ps (put_together all T S)
      | false ↦ ap (option_map (λ qs. condition Q T ∷ qs)) (condition_waits J all P S ps) ∙ front J (condition Q T) (with_condition all P S ps)
    ]

then_waits : (J : Judging) (o : Option Parts) (f : List Waiting → Option (List Waiting)) (g : Parts → Option Parts)
    → ((ps : Parts) → f (waiting J ps) ≡ option_map (waiting J) (g ps))
    → option_and_then f (option_map (waiting J) o) ≡ option_map (waiting J) (option_and_then g o)
then_waits J None f g h = refl
then_waits J (Some ps) f g h = h ps

behind_waits : (J : Judging) (all : Bool) (done ps : Parts)
    → gathered_behind all (waiting J done) (waiting J ps) ≡ option_map (waiting J) (gathered_behind all done ps)
behind_waits J all done [] = refl
behind_waits J all done (settled b ∷ ps) =
    ap (λ (qs : List Waiting). gathered_behind all qs (waiting J ps)) (sym (map-append (waiting_part J) done (settled b ∷ [])))
    ∙ behind_waits J all (done ++ settled b ∷ []) ps
behind_waits J all done (other F ∷ ps) =
    ap (λ (qs : List Waiting). gathered_behind all qs (waiting J ps)) (sym (map-append (waiting_part J) done (other F ∷ [])))
    ∙ behind_waits J all (done ++ other F ∷ []) ps
behind_waits J all done (condition P S ∷ ps) =
    ap (option_and_then (λ (qs : List Waiting). gathered_behind all qs (waiting J ps))) (condition_waits J all P S done)
    ∙ then_waits J (with_condition all P S done) (λ qs. gathered_behind all qs (waiting J ps)) (λ qs. gathered_behind all qs ps)
    (λ qs. behind_waits J all qs ps)

undecided_waits : (J : Judging) (all : Bool) (ps : Parts) → undecided all (waiting J ps) ≡ option_map (waiting J) (undecided all ps)
undecided_waits J all [] = refl
undecided_waits J all (settled b ∷ ps) =
    elim (beq b all) as (λ c. (if c then undecided all (waiting J ps) else None) ≡ option_map (waiting J) (if c then undecided all ps else None)) [
      | true ↦ undecided_waits J all ps
      | false ↦ refl
    ]
undecided_waits J all (condition P S ∷ ps) = ap (option_map (λ qs. condition P S ∷ qs)) (undecided_waits J all ps) ∙ front J (condition P S) (undecided all ps)
undecided_waits J all (other F ∷ ps) = ap (option_map (λ qs. waiting_part J (other F) ∷ qs)) (undecided_waits J all ps) ∙ front J (other F) (undecided all ps)

pub gathered_waits : (J : Judging) (all : Bool) (ps : Parts) → gathered all (waiting J ps) ≡ option_map (waiting J) (gathered all ps)
gathered_waits J all ps =
    ap (option_and_then (undecided all)) (behind_waits J all [] ps)
    ∙ then_waits J (gathered_behind all [] ps) (undecided all) (undecided all) (undecided_waits J all)

judged_waits : (J : Judging) (P : List Monomial) (S : Signs) (o : Option Bool) → as_judged P S o ≡ waiting_part J (as_judged P S o)
judged_waits J P S None = refl
judged_waits J P S (Some b) = refl

facts_wait : (J : Judging) (K : Facts) (ps : Parts) → map (by_facts K) (waiting J ps) ≡ waiting J (map (by_facts K) ps)
facts_wait J K [] = refl
facts_wait J K (settled b ∷ ps) = ap (λ (qs : List Waiting). settled b ∷ qs) (facts_wait J K ps)
facts_wait J K (condition P S ∷ ps) = ap₂ (λ (m : Part (Facts → Formula)) (qs : List Waiting). m ∷ qs) (judged_waits J P S (judged K P S)) (facts_wait J K ps)
facts_wait J K (other F ∷ ps) = ap (λ (qs : List Waiting). waiting_part J (other F) ∷ qs) (facts_wait J K ps)

pub open_waits : (J : Judging) (all : Bool) (K : Facts) (ps : Parts) → left_open all K (waiting J ps) ≡ option_map (waiting J) (open_parts all K ps)
open_waits J all K ps =
    ap (option_and_then (λ (qs : List Waiting). undecided all (map (by_facts K) qs))) (gathered_waits J all ps)
    ∙ then_waits J (gathered all ps) (λ qs. undecided all (map (by_facts K) qs)) (λ qs. undecided all (map (by_facts K) qs))
    (λ qs. ap (undecided all) (facts_wait J K qs) ∙ undecided_waits J all (map (by_facts K) qs))

conditions_wait : (J : Judging) (ps : Parts) (K : Facts) → with_conditions (waiting J ps) K ≡ with_conditions ps K
conditions_wait J [] K = refl
conditions_wait J (settled b ∷ ps) K = conditions_wait J ps K
conditions_wait J (condition P S ∷ ps) K = conditions_wait J ps (with_fact P S K)
conditions_wait J (other F ∷ ps) K = conditions_wait J ps K

pub within_waits : (J : Judging) (all : Bool) (ps : Parts) (K : Facts) → facts_within all (waiting J ps) K ≡ facts_within all ps K
within_waits J true ps K = conditions_wait J ps K
within_waits J false ps K = refl

mutual
  flat_waits : (J : Judging) (all : Bool) (F : Formula) → waiting J (flat_parts all F) ≡ parts_by J all F
  flat_waits J true always = refl
  flat_waits J false always = refl
  flat_waits J true never = refl
  flat_waits J false never = refl
  flat_waits J true (atom P S) = refl
  flat_waits J false (atom P S) = refl
  flat_waits J true (conjunction Fs) = all_flat_wait J true Fs
  flat_waits J true (disjunction Fs) = refl
  flat_waits J false (conjunction Fs) = refl
  flat_waits J false (disjunction Fs) = all_flat_wait J false Fs

  pub all_flat_wait : (J : Judging) (all : Bool) (Fs : Formulas) → waiting J (all_flat_parts all Fs) ≡ all_parts_by J all Fs
  all_flat_wait J all none = refl
  all_flat_wait J all (more F Fs) =
      map-append (waiting_part J) (flat_parts all F) (all_flat_parts all Fs)
      ∙ ap₂ (λ (ps qs : List Waiting). ps ++ qs) (flat_waits J all F) (all_flat_wait J all Fs)

-- and those that the signs of their symbols leave open
signs_wait : (J : Judging) (K : Facts) (ps : Parts) → map (by_signs K) (waiting J ps) ≡ waiting J (map (by_signs K) ps)
signs_wait J K [] = refl
signs_wait J K (settled b ∷ ps) = ap (λ (qs : List Waiting). settled b ∷ qs) (signs_wait J K ps)
signs_wait J K (condition P S ∷ ps) =
    ap₂ (λ (m : Part (Facts → Formula)) (qs : List Waiting). m ∷ qs) (judged_waits J P S (judged_by_signs K P S)) (signs_wait J K ps)
signs_wait J K (other F ∷ ps) = ap (λ (qs : List Waiting). waiting_part J (other F) ∷ qs) (signs_wait J K ps)

symbols_wait : (J : Judging) (ps : Parts) → filter is_on_symbol (waiting J ps) ≡ waiting J (filter is_on_symbol ps)
symbols_wait J [] = refl
symbols_wait J (settled b ∷ ps) = symbols_wait J ps
symbols_wait J (other F ∷ ps) = symbols_wait J ps
symbols_wait J (condition P S ∷ ps) =
    elim (is_symbol P) as (λ b. (if b then condition P S ∷ filter is_on_symbol (waiting J ps) else filter is_on_symbol (waiting J ps))
    ≡ waiting J (if b then condition P S ∷ filter is_on_symbol ps else filter is_on_symbol ps)) [
      | true ↦ ap (λ (qs : List Waiting). condition P S ∷ qs) (symbols_wait J ps)
      | false ↦ symbols_wait J ps
    ]

beside_waits : (J : Judging) (all : Bool) (ps : Parts) (K : Facts) → facts_beside all (waiting J ps) K ≡ facts_beside all ps K
beside_waits J all ps K =
    ap (λ (qs : List Waiting). facts_within all qs K) (symbols_wait J ps) ∙ within_waits J all (filter is_on_symbol ps) K

open_beside_waits : (J : Judging) (all : Bool) (K : Facts) (ps : Parts) → open_by_signs all K (waiting J ps) ≡ option_map (waiting J) (open_beside all K ps)
open_beside_waits J all K ps =
    ap (λ (L : Facts). undecided all (map (by_signs L) (waiting J ps))) (beside_waits J all ps K)
    ∙ ap (undecided all) (signs_wait J (facts_beside all ps K) ps)
    ∙ undecided_waits J all (map (by_signs (facts_beside all ps K)) ps)

-- what a way to judge leaves open
pub open_waits_for : (J : Judging) (way : Judgement) (all : Bool) (K : Facts) (ps : Parts)
    → (judging_of way).open_members all K (waiting J ps) ≡ option_map (waiting J) (open_for way all K ps)
open_waits_for J ByFacts all K ps = open_waits J all K ps
open_waits_for J BySigns all K ps =
    ap (option_and_then (open_by_signs all K)) (open_waits J all K ps)
    ∙ then_waits J (open_parts all K ps) (open_by_signs all K) (open_beside all K) (open_beside_waits J all K)
