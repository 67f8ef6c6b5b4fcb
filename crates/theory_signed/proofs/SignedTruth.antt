-- The simplified form by signs has the truth of the formula wherever the facts are true.
use Rattle.std.proofs.Common.{◌≡◌, Bool, true, false, List, [], ◌∷◌, Option, None, Some, refl, sym, ap, ◌∙◌}
use Rattle.std.specs.Prelude.{◌&&◌, map, cond, if◌then◌else◌}
use Rattle.std.specs.List.{filter}
use Rattle.std.specs.Option.{option_or}
use Rattle.theory_formula.specs.declared.signs.Signs.{Signs}
use Rattle.theory_formula.specs.Signs.{has}
use Rattle.theory_polynomial.specs.Terms.{Monomial}
use Rattle.theory_polynomial.specs.PolynomialValue.{Values}
use Rattle.theory_formula.specs.Formula.{Formula, sign_at, truth_at}
use Rattle.theory_elimination.specs.Facts.{Facts, judged, AreTrueAt, judged_by}
use Rattle.theory_elimination.specs.Simplified.{Part, settled, condition, other, as_judged, undecided, with_conditions, left_open, simplified_by}
use Rattle.theory_elimination.proofs.FactTruth.{judged_has}
use Rattle.theory_elimination.proofs.PartTruth as part
use Rattle.theory_elimination.proofs.PartTruth.{total, combined_comm}
use Rattle.theory_elimination.proofs.SimplifiedTruth.{WaitsFor, IsSound, by_known_is_sound, simplified_by_truth}
use Rattle.theory_signed.specs.PossibleSigns.{is_symbol, judged_by_signs, possible_signs}
use Rattle.theory_signed.specs.Signed.{by_signs, is_on_symbol, facts_beside, open_by_signs, by_known_and_signs}
use Rattle.theory_signed.proofs.PossibleTruth.{by_signs_has}

module _ {X : Type 0} (IsOther : X → Bool → Type 0) (p : Values) where
  abbrev IsWorth : Part X → Bool → Type 0
  IsWorth = part.IsWorth IsOther p

  abbrev AreWorth : List (Part X) → List Bool → Type 0
  AreWorth = part.AreWorth IsOther p

  -- under true facts each member keeps its truth
  worth_by_signs : (K : Facts) (m : Part X) (u : Bool) → AreTrueAt p K → IsWorth m u → IsWorth (by_signs K m) u
  worth_by_signs K (settled b) u h w = w
  worth_by_signs K (other x) u h w = w
  worth_by_signs K (condition P S) u h w =
      elim (judged_by_signs K P S) as (λ o. judged_by_signs K P S ≡ o → IsWorth (as_judged P S o) u) [
        | None ↦ λ e. w
        | Some b ↦ λ e. w ∙ by_signs_has p K P S b h e
      ] refl

  pub are_worth_by_signs : (K : Facts) (ms : List (Part X)) (us : List Bool) → AreTrueAt p K → AreWorth ms us → AreWorth (map (by_signs K) ms) us
  are_worth_by_signs K [] [] h w = tt
  are_worth_by_signs K [] (u ∷ us) h w = absurd w
  are_worth_by_signs K (m ∷ ms) [] h w = absurd w
  are_worth_by_signs K (m ∷ ms) (u ∷ us) h w = (worth_by_signs K m u h w.0, are_worth_by_signs K ms us h w.1)

  -- under any facts it has some truth
  judged_worth : (P : List Monomial) (S : Signs) (o : Option Bool) → (v : Bool) × IsWorth (as_judged P S o) v
  judged_worth P S None = (has S (sign_at P p), refl)
  judged_worth P S (Some b) = (b, refl)

  some_worth : (K : Facts) (m : Part X) (u : Bool) → IsWorth m u → (v : Bool) × IsWorth (by_signs K m) v
  some_worth K (settled b) u w = (u, w)
  some_worth K (other x) u w = (u, w)
  some_worth K (condition P S) u w = judged_worth P S (judged_by_signs K P S)

  some_worths : (K : Facts) (ms : List (Part X)) (us : List Bool) → AreWorth ms us → (vs : List Bool) × AreWorth (map (by_signs K) ms) vs
  some_worths K [] us w = ([], tt)
  some_worths K (m ∷ ms) [] w = absurd w
  some_worths K (m ∷ ms) (u ∷ us) w =
      let v = some_worth K m u w.0 in
      let vs = some_worths K ms us w.1 in
      (v.0 ∷ vs.0, (v.1, vs.1))

  -- a false condition on a symbol stays, whatever the facts
  fails_still : (K : Facts) (ms : List (Part X)) (us : List Bool) → AreWorth ms us → part.conditions_hold IsOther p (filter is_on_symbol ms) ≡ false
      → part.Keeps IsOther p true (Some (map (by_signs K) ms)) false
  fails_still K [] us w e = absurd cc
  fails_still K (m ∷ ms) [] w e = absurd w
  fails_still K (settled b ∷ ms) (u ∷ us) w e =
      let k = fails_still K ms us w.1 e in
      (u ∷ k.0, (w.0, k.1), ap (λ (c : Bool). u && c) k.2 ∙ combined_comm true u false)
  fails_still K (other x ∷ ms) (u ∷ us) w e =
      let k = fails_still K ms us w.1 e in
      (u ∷ k.0, (w.0, k.1), ap (λ (c : Bool). u && c) k.2 ∙ combined_comm true u false)
  fails_still K (condition P S ∷ ms) (u ∷ us) w e =
      elim (is_symbol P) as (λ y. is_symbol P ≡ y
      → part.conditions_hold IsOther p (cond y (condition P S ∷ filter is_on_symbol ms) (filter is_on_symbol ms)) ≡ false
      → part.Keeps IsOther p true (Some (as_judged P S (if y then None else judged_by S (possible_signs K P)) ∷ map (by_signs K) ms)) false) [
        | true ↦ λ y e'.
            elim (has S (sign_at P p)) as (λ b. has S (sign_at P p) ≡ b → b && part.conditions_hold IsOther p (filter is_on_symbol ms) ≡ false
            → part.Keeps IsOther p true (Some (condition P S ∷ map (by_signs K) ms)) false) [
              | true ↦ λ holds e''.
                  let k = fails_still K ms us w.1 e'' in
                  (true ∷ k.0, (sym holds, k.1), k.2)
              | false ↦ λ fails e''.
                  let vs = some_worths K ms us w.1 in
                  (false ∷ vs.0, (sym fails, vs.1), refl)
            ] refl e'
        | false ↦ λ y e'.
            let k = fails_still K ms us w.1 e' in
            let v = judged_worth P S (judged_by S (possible_signs K P)) in
            (v.0 ∷ k.0, (v.1, k.1), ap (λ (c : Bool). v.0 && c) k.2 ∙ combined_comm true v.0 false)
      ] refl e

  -- where one fails, the members do
  on_symbols_fail : (ms : List (Part X)) → part.conditions_hold IsOther p (filter is_on_symbol ms) ≡ false → part.conditions_hold IsOther p ms ≡ false
  on_symbols_fail [] e = e
  on_symbols_fail (settled b ∷ ms) e = on_symbols_fail ms e
  on_symbols_fail (other x ∷ ms) e = on_symbols_fail ms e
  on_symbols_fail (condition P S ∷ ms) e =
      elim (is_symbol P) as (λ y. part.conditions_hold IsOther p (cond y (condition P S ∷ filter is_on_symbol ms) (filter is_on_symbol ms)) ≡ false
      → has S (sign_at P p) && part.conditions_hold IsOther p ms ≡ false) [
        | true ↦ λ e'.
            elim (has S (sign_at P p)) as (λ b. b && part.conditions_hold IsOther p (filter is_on_symbol ms) ≡ false
            → b && part.conditions_hold IsOther p ms ≡ false) [
              | true ↦ λ e''. on_symbols_fail ms e''
              | false ↦ λ e''. refl
            ] e'
        | false ↦ λ e'. ap (λ (c : Bool). has S (sign_at P p) && c) (on_symbols_fail ms e') ∙ combined_comm true (has S (sign_at P p)) false
      ] e

  keeps_under : (all : Bool) (K : Facts) (ms : List (Part X)) (us : List Bool) → AreTrueAt p K → AreWorth ms us
      → part.Keeps IsOther p all (undecided all (map (by_signs K) ms)) (total all us)
  keeps_under all K ms us h w = part.keeps_undecided IsOther p all (map (by_signs K) ms) us (are_worth_by_signs K ms us h w)

  pub keeps_by_signs : (all : Bool) (K : Facts) (ms : List (Part X)) (us : List Bool) → AreTrueAt p K → AreWorth ms us
      → part.Keeps IsOther p all (undecided all (map (by_signs (facts_beside all ms K)) ms)) (total all us)
  keeps_by_signs false K ms us h w = keeps_under false K ms us h w
  keeps_by_signs true K ms us h w =
      let more : Facts = with_conditions (filter is_on_symbol ms) K in
      elim (part.conditions_hold IsOther p (filter is_on_symbol ms)) as (λ b. part.conditions_hold IsOther p (filter is_on_symbol ms) ≡ b
      → part.Keeps IsOther p true (undecided true (map (by_signs more) ms)) (total true us)) [
        | true ↦ λ e. keeps_under true more ms us (part.facts_with_conditions IsOther p (filter is_on_symbol ms) K h e) w
        | false ↦ λ e.
            let k = fails_still more ms us w e in
            part.keeps_same IsOther p true (undecided true (map (by_signs more) ms)) (total true k.0) (total true us)
            (k.2 ∙ sym (part.conditions_fail IsOther p ms us w (on_symbols_fail ms e)))
            (part.keeps_undecided IsOther p true (map (by_signs more) ms) k.0 k.1)
      ] refl

module _ (p : Values) where
  alone_has : (K : Facts) (P : List Monomial) (S : Signs) (b : Bool) → AreTrueAt p K → option_or (judged K P S) (judged_by_signs K P S) ≡ Some b
      → has S (sign_at P p) ≡ b
  alone_has K P S b h e =
      elim (judged K P S) as (λ o. judged K P S ≡ o → option_or o (judged_by_signs K P S) ≡ Some b → has S (sign_at P p) ≡ b) [
        | None ↦ λ j e'. by_signs_has p K P S b h e'
        | Some c ↦ λ j e'. judged_has p P S K b h (j ∙ e')
      ] refl e

  pub by_known_and_signs_is_sound : IsSound p by_known_and_signs
  by_known_and_signs_is_sound = record {
    alone = alone_has;
    open_members = λ all K ms us h w.
        part.keeps_then (WaitsFor p) p all (left_open all K ms) (open_by_signs all K) (total all us)
        ((by_known_is_sound p).open_members all K ms us h w)
        (λ ns vs k. keeps_by_signs (WaitsFor p) p all K ns vs h k);
  }

  pub signed_truth : (K : Facts) (F : Formula) → AreTrueAt p K → truth_at (simplified_by by_known_and_signs K F) p ≡ truth_at F p
  signed_truth K F h = simplified_by_truth p by_known_and_signs by_known_and_signs_is_sound K F h
