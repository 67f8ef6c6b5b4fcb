-- The truth of members that are formulas, through splicing, leaving out repeats and bundling.
use Rattle.std.proofs.Common.{◌≡◌, Bool, true, false, not, List, [], ◌∷◌, Option, None, Some, refl, sym, ap, ap₂, ◌∙◌}
use Rattle.std.specs.Prelude.{◌&&◌, ◌||◌, if◌then◌else◌, map}
use Rattle.std.specs.List.{list_any}
use Rattle.theory_formula.specs.Signs.{has}
use Rattle.theory_polynomial.specs.PolynomialValue.{Values}
use Rattle.theory_formula.specs.Formula.{Formula, Formulas, always, never, atom, conjunction, disjunction, none, more, formulas_list, formulas_from, sign_at, truth_at, all_by, some_by, reading_at}
use Rattle.theory_formula.specs.SignCondition.{decided}
use Rattle.theory_elimination.specs.SameFormula.{is_same}
use Rattle.theory_elimination.specs.Simplified.{Part, settled, condition, other, as_part, spliced, as_formula, first_ones, list_of, bundled, finished}
use Rattle.theory_elimination.proofs.SetTruth.{combined}
use Rattle.theory_elimination.proofs.SameLaws.{same_truth}
use Rattle.theory_elimination.proofs.PartTruth as part
use Rattle.theory_elimination.proofs.PartTruth.{total, total_append, combined_assoc, combined_comm, combined_end, combined_start}

module _ (p : Values) where
  -- a formula has its truth
  abbrev pub HasTruth : Formula → Bool → Type 0
  HasTruth F v = v ≡ truth_at F p

  abbrev pub truth_of_part : Part Formula → Bool
  truth_of_part (settled b) = b
  truth_of_part (condition P S) = has S (sign_at P p)
  truth_of_part (other F) = truth_at F p

  abbrev pub truths : List (Part Formula) → List Bool
  truths ms = map truth_of_part ms

  part_is_worth : (m : Part Formula) → part.IsWorth HasTruth p m (truth_of_part m)
  part_is_worth (settled b) = refl
  part_is_worth (condition P S) = refl
  part_is_worth (other F) = refl

  pub parts_are_worth : (ms : List (Part Formula)) → part.AreWorth HasTruth p ms (truths ms)
  parts_are_worth [] = tt
  parts_are_worth (m ∷ ms) = (part_is_worth m, parts_are_worth ms)

  worth_is : (m : Part Formula) (u : Bool) → part.IsWorth HasTruth p m u → u ≡ truth_of_part m
  worth_is (settled b) u w = w
  worth_is (condition P S) u w = w
  worth_is (other F) u w = w

  pub worths_are : (ms : List (Part Formula)) (us : List Bool) → part.AreWorth HasTruth p ms us → us ≡ truths ms
  worths_are [] [] w = refl
  worths_are [] (u ∷ us) w = absurd w
  worths_are (m ∷ ms) [] w = absurd w
  worths_are (m ∷ ms) (u ∷ us) w = ap₂ (λ (b : Bool) (bs : List Bool). b ∷ bs) (worth_is m u w.0) (worths_are ms us w.1)

  -- a formula as a member
  part_truth : (F : Formula) → truth_of_part (as_part F) ≡ truth_at F p
  part_truth always = refl
  part_truth never = refl
  part_truth (atom P S) = refl
  part_truth (conjunction Fs) = refl
  part_truth (disjunction Fs) = refl

  all_members : (Fs : Formulas) → total true (truths (map as_part (formulas_list Fs))) ≡ all_by (reading_at p) Fs
  all_members none = refl
  all_members (more F Fs) = ap₂ ◌&&◌ (part_truth F) (all_members Fs)

  some_members : (Fs : Formulas) → total false (truths (map as_part (formulas_list Fs))) ≡ some_by (reading_at p) Fs
  some_members none = refl
  some_members (more F Fs) = ap₂ ◌||◌ (part_truth F) (some_members Fs)

  alone : (all : Bool) (F : Formula) → total all (truths (as_part F ∷ [])) ≡ truth_at F p
  alone all F = combined_end all (truth_of_part (as_part F)) ∙ part_truth F

  pub spliced_truth : (all : Bool) (F : Formula) → total all (truths (spliced all F)) ≡ truth_at F p
  spliced_truth true (conjunction Fs) = all_members Fs
  spliced_truth false (disjunction Fs) = some_members Fs
  spliced_truth true always = alone true always
  spliced_truth true never = alone true never
  spliced_truth true (atom P S) = alone true (atom P S)
  spliced_truth true (disjunction Fs) = alone true (disjunction Fs)
  spliced_truth false always = alone false always
  spliced_truth false never = alone false never
  spliced_truth false (atom P S) = alone false (atom P S)
  spliced_truth false (conjunction Fs) = alone false (conjunction Fs)

  -- members as formulas
  abbrev pub formula_truths : List Formula → List Bool
  formula_truths Fs = map (λ F. truth_at F p) Fs

  decided_truth : (b : Bool) → truth_at (decided b) p ≡ b
  decided_truth true = refl
  decided_truth false = refl

  formula_truth : (m : Part Formula) → truth_at (as_formula m) p ≡ truth_of_part m
  formula_truth (settled b) = decided_truth b
  formula_truth (condition P S) = refl
  formula_truth (other F) = refl

  formulas_truth : (ms : List (Part Formula)) → formula_truths (map as_formula ms) ≡ truths ms
  formulas_truth [] = refl
  formulas_truth (m ∷ ms) = ap₂ (λ (b : Bool) (bs : List Bool). b ∷ bs) (formula_truth m) (formulas_truth ms)

  -- a formula that is the same as one that was seen changes nothing
  twice : (all a b : Bool) → combined all a (combined all a b) ≡ combined all a b
  twice true true b = refl
  twice true false b = refl
  twice false true b = refl
  twice false false b = refl

  swapped : (all a b c : Bool) → combined all a (combined all b c) ≡ combined all b (combined all a c)
  swapped all a b c = sym (combined_assoc all a b c) ∙ ap (λ (x : Bool). combined all x c) (combined_comm all a b) ∙ combined_assoc all b a c

  seen_counts : (all : Bool) (F : Formula) (seen : List Formula) → list_any (is_same F) seen ≡ true →
      combined all (truth_at F p) (total all (formula_truths seen)) ≡ total all (formula_truths seen)
  seen_counts all F [] e = absurd cc
  seen_counts all F (G ∷ seen) e =
      elim (is_same F G) as (λ b. is_same F G ≡ b → b || list_any (is_same F) seen ≡ true →
      combined all (truth_at F p) (combined all (truth_at G p) (total all (formula_truths seen))) ≡ combined all (truth_at G p)
      (total all (formula_truths seen))) [
        | true ↦ λ same e'.
            ap (λ (b : Bool). combined all b (combined all (truth_at G p) (total all (formula_truths seen)))) (same_truth p F G same)
            ∙ twice all (truth_at G p) (total all (formula_truths seen))
        | false ↦ λ differ e'.
            swapped all (truth_at F p) (truth_at G p) (total all (formula_truths seen)) ∙ ap (combined all (truth_at G p)) (seen_counts all F seen e')
      ] refl e

  first_ones_truth : (all : Bool) (Fs seen : List Formula) → combined all (total all (formula_truths seen)) (total all (formula_truths (first_ones seen Fs)))
      ≡ combined all (total all (formula_truths seen)) (total all (formula_truths Fs))
  first_ones_truth all [] seen = refl
  first_ones_truth all (F ∷ Fs) seen =
      let t = truth_at F p in
      let before = total all (formula_truths seen) in
      let behind = total all (formula_truths Fs) in
      elim (list_any (is_same F) seen) as (λ b. list_any (is_same F) seen ≡ b →
      combined all before (total all (formula_truths (if b then first_ones seen Fs else F ∷ first_ones (F ∷ seen) Fs))) ≡ combined all before
      (combined all t behind)) [
        | true ↦ λ e.
            first_ones_truth all Fs seen ∙ ap (λ (b : Bool). combined all b behind) (sym (seen_counts all F seen e)) ∙ combined_assoc all t before behind
            ∙ swapped all t before behind
        | false ↦ λ e.
            let kept = total all (formula_truths (first_ones (F ∷ seen) Fs)) in
            swapped all before t kept ∙ sym (combined_assoc all t before kept) ∙ first_ones_truth all Fs (F ∷ seen)
            ∙ combined_assoc all t before behind ∙ swapped all t before behind
      ] refl

  -- all or some of the formulas as one
  all_listed : (Fs : List Formula) → all_by (reading_at p) (formulas_from Fs) ≡ total true (formula_truths Fs)
  all_listed [] = refl
  all_listed (F ∷ Fs) = ap (λ (b : Bool). truth_at F p && b) (all_listed Fs)

  some_listed : (Fs : List Formula) → some_by (reading_at p) (formulas_from Fs) ≡ total false (formula_truths Fs)
  some_listed [] = refl
  some_listed (F ∷ Fs) = ap (λ (b : Bool). truth_at F p || b) (some_listed Fs)

  list_truth : (all : Bool) (Fs : List Formula) → truth_at (list_of all (formulas_from Fs)) p ≡ total all (formula_truths Fs)
  list_truth true Fs = all_listed Fs
  list_truth false Fs = some_listed Fs

  bundled_truth : (all : Bool) (Fs : List Formula) → truth_at (bundled all Fs) p ≡ total all (formula_truths Fs)
  bundled_truth all [] = decided_truth all
  bundled_truth all (F ∷ []) = sym (combined_end all (truth_at F p))
  bundled_truth all (F ∷ G ∷ Fs) = list_truth all (F ∷ G ∷ Fs)

  pub finished_truth : (all : Bool) (o : Option (List (Part Formula))) (v : Bool) → part.Keeps HasTruth p all o v → truth_at (finished all o) p ≡ v
  finished_truth all None v k = decided_truth (not all) ∙ sym k
  finished_truth all (Some ms) v k =
      bundled_truth all (first_ones [] (map as_formula ms))
      ∙ sym (combined_start all (total all (formula_truths (first_ones [] (map as_formula ms)))))
      ∙ first_ones_truth all (map as_formula ms) []
      ∙ combined_start all (total all (formula_truths (map as_formula ms)))
      ∙ ap (total all) (formulas_truth ms ∙ sym (worths_are ms k.0 k.1)) ∙ k.2
