-- The simplified form has the truth of the formula wherever the facts are true.
use Rattle.std.proofs.Common.{◌≡◌, Bool, true, false, List, [], ◌∷◌, ◌++◌, Option, None, Some, refl, sym, ap, ap₂, ◌∙◌}
use Rattle.std.specs.Prelude.{◌&&◌, map}
use Rattle.std.specs.Option.{option_and_then}
use Rattle.std.proofs.lemmas.List.{map-append}
use Rattle.theory_formula.specs.declared.signs.Signs.{Signs}
use Rattle.theory_polynomial.specs.Terms.{Monomial}
use Rattle.theory_formula.specs.Signs.{has}
use Rattle.theory_polynomial.specs.PolynomialValue.{Values}
use Rattle.theory_formula.specs.Formula.{Formula, Formulas, always, never, atom, conjunction, disjunction, none, more, sign_at, truth_at, all_by, some_by, reading_at}
use Rattle.theory_formula.specs.SignCondition.{decided}
use Rattle.theory_elimination.specs.Facts.{Facts, AreTrueAt}
use Rattle.theory_elimination.specs.Simplified.{Part, Waiting, settled, condition, other, undecided, gathered, by_facts, with_conditions, facts_within, spliced, members_under, left_open, Judging, by_known, simplified_list_by, parts_by, all_parts_by, as_known, simplified_by, simplified_under}
use Rattle.theory_elimination.proofs.SetTruth.{combined}
use Rattle.theory_elimination.proofs.FactTruth.{judged_has}
use Rattle.theory_elimination.proofs.PartTruth as part
use Rattle.theory_elimination.proofs.PartTruth.{total, total_append, combined_comm, combined_end}
use Rattle.theory_elimination.proofs.MemberTruth.{HasTruth, truth_of_part, truths, parts_are_worth, spliced_truth, finished_truth}

module _ (p : Values) where
  -- what waits for facts has this truth under all true ones
  abbrev pub WaitsFor : (Facts → Formula) → Bool → Type 0
  WaitsFor simplify v = (K : Facts) → AreTrueAt p K → truth_at (simplify K) p ≡ v

  abbrev AreWaiting : List Waiting → List Bool → Type 0
  AreWaiting = part.AreWorth WaitsFor p

  truths_append : (all : Bool) (ms ns : List (Part Formula)) →
      total all (truths p (ms ++ ns)) ≡ combined all (total all (truths p ms)) (total all (truths p ns))
  truths_append all ms ns = ap (total all) (map-append (truth_of_part p) ms ns) ∙ total_append all (truths p ms) (truths p ns)

  -- members that are simplified under true facts keep their truth
  under_truth : (all : Bool) (K : Facts) (ms : List Waiting) (us : List Bool) → AreTrueAt p K → AreWaiting ms us
      → total all (truths p (members_under all K ms)) ≡ total all us
  under_truth all K [] [] h w = refl
  under_truth all K [] (u ∷ us) h w = absurd w
  under_truth all K (m ∷ ms) [] h w = absurd w
  under_truth all K (settled b ∷ ms) (u ∷ us) h w = ap₂ (combined all) (sym w.0) (under_truth all K ms us h w.1)
  under_truth all K (condition P S ∷ ms) (u ∷ us) h w = ap₂ (combined all) (sym w.0) (under_truth all K ms us h w.1)
  under_truth all K (other simplify ∷ ms) (u ∷ us) h w =
      truths_append all (spliced all (simplify K)) (members_under all K ms)
      ∙ ap₂ (combined all) (spliced_truth p all (simplify K) ∙ w.0 K h) (under_truth all K ms us h w.1)

  -- where a condition among them is false, the conjunction is
  under_fails : (K : Facts) (ms : List Waiting) → part.conditions_hold WaitsFor p ms ≡ false → total true (truths p (members_under true K ms)) ≡ false
  under_fails K [] e = absurd cc
  under_fails K (settled b ∷ ms) e = ap (λ (c : Bool). b && c) (under_fails K ms e) ∙ combined_comm true b false
  under_fails K (condition P S ∷ ms) e =
      elim (has S (sign_at P p)) as (λ b. b && part.conditions_hold WaitsFor p ms ≡ false → b && total true (truths p (members_under true K ms)) ≡ false) [
        | true ↦ λ e'. under_fails K ms e'
        | false ↦ λ e'. refl
      ] e
  under_fails K (other simplify ∷ ms) e =
      truths_append true (spliced true (simplify K)) (members_under true K ms)
      ∙ ap (λ (c : Bool). total true (truths p (spliced true (simplify K))) && c) (under_fails K ms e)
      ∙ combined_comm true (total true (truths p (spliced true (simplify K)))) false

  within_truth : (all : Bool) (K : Facts) (ms : List Waiting) (us : List Bool) → AreTrueAt p K → AreWaiting ms us
      → total all (truths p (members_under all (facts_within all ms K) ms)) ≡ total all us
  within_truth false K ms us h w = under_truth false K ms us h w
  within_truth true K ms us h w =
      elim (part.conditions_hold WaitsFor p ms) as (λ b. part.conditions_hold WaitsFor p ms ≡ b
      → total true (truths p (members_under true (with_conditions ms K) ms)) ≡ total true us) [
        | true ↦ λ e. under_truth true (with_conditions ms K) ms us (part.facts_with_conditions WaitsFor p ms K h e) w
        | false ↦ λ e. under_fails (with_conditions ms K) ms e ∙ sym (part.conditions_fail WaitsFor p ms us w e)
      ] refl

  left_open_keeps : (all : Bool) (K : Facts) (ms : List Waiting) (us : List Bool) → AreTrueAt p K → AreWaiting ms us
      → part.Keeps WaitsFor p all (left_open all K ms) (total all us)
  left_open_keeps all K ms us h w =
      part.keeps_then WaitsFor p all (gathered all ms) (λ ns. undecided all (map (by_facts K) ns)) (total all us)
      (part.keeps_all_gathered WaitsFor p all ms us w)
      (λ ns vs k. part.keeps_undecided WaitsFor p all (map (by_facts K) ns) vs (part.are_worth_by_facts WaitsFor p K ns vs h k))

  -- members of another kind behind a step
  then_finished : (all : Bool) (o : Option (List Waiting)) (f : List Waiting → Option (List (Part Formula))) (v : Bool) → part.Keeps WaitsFor p all o v
      → ((ms : List Waiting) (us : List Bool) → AreWaiting ms us → part.Keeps (HasTruth p) p all (f ms) (total all us))
      → part.Keeps (HasTruth p) p all (option_and_then f o) v
  then_finished all None f v k next = k
  then_finished all (Some ms) f v k next = part.keeps_same (HasTruth p) p all (f ms) (total all k.0) v k.2 (next ms k.0 k.1)

  -- a way to judge that keeps the truth under true facts
  pub record IsSound (J : Judging) : Type 0 where
    pub alone : (K : Facts) (P : List Monomial) (S : Signs) (b : Bool) → AreTrueAt p K → J.alone K P S ≡ Some b → has S (sign_at P p) ≡ b
    pub open_members : (all : Bool) (K : Facts) (ms : List Waiting) (us : List Bool) → AreTrueAt p K → AreWaiting ms us
        → part.Keeps WaitsFor p all (J.open_members all K ms) (total all us)

  pub by_known_is_sound : IsSound by_known
  by_known_is_sound = record { alone = λ K P S b h e. judged_has p P S K b h e; open_members = left_open_keeps }

  list_truth : (J : Judging) → IsSound J → (all : Bool) (K : Facts) (ms : List Waiting) (us : List Bool) → AreTrueAt p K → AreWaiting ms us
      → truth_at (simplified_list_by J all K ms) p ≡ total all us
  list_truth J sound all K ms us h w =
      finished_truth p all (option_and_then (λ ns. gathered all (members_under all (facts_within all ns K) ns)) (J.open_members all K ms)) (total all us)
      (then_finished all (J.open_members all K ms) (λ ns. gathered all (members_under all (facts_within all ns K) ns)) (total all us)
      (sound.open_members all K ms us h w)
      (λ ns vs k.
      let made = members_under all (facts_within all ns K) ns in
      part.keeps_same (HasTruth p) p all (gathered all made) (total all (truths p made)) (total all vs) (within_truth all K ns vs h k)
      (part.keeps_all_gathered (HasTruth p) p all made (truths p made) (parts_are_worth p made))))

  -- members with truths that are together that of the formula
  pub record Stands (all : Bool) (ms : List Waiting) (v : Bool) : Type 0 where
    pub values : List Bool
    pub waiting : AreWaiting ms values
    pub value : total all values ≡ v

  one : (all : Bool) (m : Part (Facts → Formula)) (u v : Bool) → part.IsWorth WaitsFor p m u → u ≡ v → Stands all (m ∷ []) v
  one all m u v w e = record { values = u ∷ []; waiting = (w, tt); value = combined_end all u ∙ e }

  waiting_append : (ms ns : List Waiting) (us vs : List Bool) → AreWaiting ms us → AreWaiting ns vs → AreWaiting (ms ++ ns) (us ++ vs)
  waiting_append [] ns [] vs w h = h
  waiting_append [] ns (u ∷ us) vs w h = absurd w
  waiting_append (m ∷ ms) ns [] vs w h = absurd w
  waiting_append (m ∷ ms) ns (u ∷ us) vs w h = (w.0, waiting_append ms ns us vs w.1 h)

  both : (all : Bool) (ms ns : List Waiting) (v w : Bool) → Stands all ms v → Stands all ns w → Stands all (ms ++ ns) (combined all v w)
  both all ms ns v w h k = record {
    values = h.values ++ k.values;
    waiting = waiting_append ms ns h.values k.values h.waiting k.waiting;
    value = total_append all h.values k.values ∙ ap₂ (combined all) h.value k.value;
  }

  mutual
    stands : (J : Judging) → IsSound J → (all : Bool) (F : Formula) → Stands all (parts_by J all F) (truth_at F p)
    stands J sound all always = one all (settled true) true true refl refl
    stands J sound all never = one all (settled false) false false refl refl
    stands J sound all (atom P S) = one all (condition P S) (has S (sign_at P p)) (has S (sign_at P p)) refl refl
    stands J sound true (conjunction Fs) = all_stand J sound Fs
    stands J sound true (disjunction Fs) =
        let h = some_stand J sound Fs in
        one true (other (λ K. simplified_list_by J false K (all_parts_by J false Fs))) (some_by (reading_at p) Fs) (some_by (reading_at p) Fs)
        (λ K k. list_truth J sound false K (all_parts_by J false Fs) h.values k h.waiting ∙ h.value) refl
    stands J sound false (conjunction Fs) =
        let h = all_stand J sound Fs in
        one false (other (λ K. simplified_list_by J true K (all_parts_by J true Fs))) (all_by (reading_at p) Fs) (all_by (reading_at p) Fs)
        (λ K k. list_truth J sound true K (all_parts_by J true Fs) h.values k h.waiting ∙ h.value) refl
    stands J sound false (disjunction Fs) = some_stand J sound Fs

    all_stand : (J : Judging) → IsSound J → (Fs : Formulas) → Stands true (all_parts_by J true Fs) (all_by (reading_at p) Fs)
    all_stand J sound none = record { values = []; waiting = tt; value = refl }
    all_stand J sound (more F Fs) =
        both true (parts_by J true F) (all_parts_by J true Fs) (truth_at F p) (all_by (reading_at p) Fs) (stands J sound true F) (all_stand J sound Fs)

    some_stand : (J : Judging) → IsSound J → (Fs : Formulas) → Stands false (all_parts_by J false Fs) (some_by (reading_at p) Fs)
    some_stand J sound none = record { values = []; waiting = tt; value = refl }
    some_stand J sound (more F Fs) =
        both false (parts_by J false F) (all_parts_by J false Fs) (truth_at F p) (some_by (reading_at p) Fs) (stands J sound false F) (some_stand J sound Fs)

  decided_truth : (b : Bool) → truth_at (decided b) p ≡ b
  decided_truth true = refl
  decided_truth false = refl

  -- the law, and its instance by the facts alone
  pub simplified_by_truth : (J : Judging) → IsSound J → (K : Facts) (F : Formula) → AreTrueAt p K → truth_at (simplified_by J K F) p ≡ truth_at F p
  simplified_by_truth J sound K always h = refl
  simplified_by_truth J sound K never h = refl
  simplified_by_truth J sound K (atom P S) h =
      elim (J.alone K P S) as (λ o. J.alone K P S ≡ o → truth_at (as_known P S o) p ≡ has S (sign_at P p)) [
        | None ↦ λ e. refl
        | Some b ↦ λ e. decided_truth b ∙ sym (sound.alone K P S b h e)
      ] refl
  simplified_by_truth J sound K (conjunction Fs) h =
      let s = all_stand J sound Fs in list_truth J sound true K (all_parts_by J true Fs) s.values h s.waiting ∙ s.value
  simplified_by_truth J sound K (disjunction Fs) h =
      let s = some_stand J sound Fs in list_truth J sound false K (all_parts_by J false Fs) s.values h s.waiting ∙ s.value

  pub simplified_truth : (K : Facts) (F : Formula) → AreTrueAt p K → truth_at (simplified_under K F) p ≡ truth_at F p
  simplified_truth K F h = simplified_by_truth by_known by_known_is_sound K F h
