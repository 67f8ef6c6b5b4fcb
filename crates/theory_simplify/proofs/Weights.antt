-- How many lists stand in a formula: it falls at each level, and no step raises it.
use Rattle.std.proofs.Common.{◌≡◌, ℕ, suc, ◌+◌, ◌≤◌, Bool, true, false, List, [], ◌∷◌, ◌++◌, map, Option, None, Some, Result, Ok, Err, option_map, option_and_then, refl, sym, ap, ap₂, ◌∙◌, subst, arith, if◌then◌else◌}
use Rattle.std.specs.Bool.{beq}
use Rattle.theory_formula.specs.declared.signs.Signs.{Signs}
use Rattle.theory_polynomial.specs.Terms.{Monomial}
use Rattle.theory_formula.specs.Formula as plain
use Rattle.theory_formula.specs.Formula.{always, never, atom, conjunction, disjunction, none, more, formulas_from}
use Rattle.theory_elimination.specs.SameFormula.{is_same_poly}
use Rattle.theory_elimination.specs.Facts.{Facts, judged}
use Rattle.theory_elimination.specs.Simplified.{Part, settled, condition, other, as_part, put_together, with_condition, gathered_behind, undecided, gathered, by_facts, as_judged}
use Rattle.theory_simplify.specs.declared.drafts.Draft as lent
use Rattle.theory_simplify.specs.Drafts.{draft_of}
use Rattle.theory_signed.specs.PossibleSigns.{judged_by_signs}
use Rattle.theory_signed.specs.Signed.{by_signs, facts_beside}
use Rattle.theory_simplify.specs.declared.judgement.Judgement.{Judgement}
use Rattle.theory_simplify.specs.declared.judgement.Judgement.TheVariants.{ByFacts, BySigns}
use Rattle.theory_simplify.specs.Parts.{parts_of, flat_parts, all_flat_parts, opened}
use Rattle.theory_simplify.specs.Judged.{open_parts, open_beside, open_for}

abbrev Parts : Type 0
Parts = List (Part plain.Formula)

abbrev mutual
  pub weight : plain.Formula → ℕ
  weight always = 0
  weight never = 0
  weight (atom P S) = 0
  weight (conjunction Fs) = suc (weights Fs)
  weight (disjunction Fs) = suc (weights Fs)

  pub weights : plain.Formulas → ℕ
  weights none = 0
  weights (more F Fs) = weight F + weights Fs

abbrev pub part_weight : Part plain.Formula → ℕ
part_weight (settled b) = 0
part_weight (condition P S) = 0
part_weight (other F) = weight F

abbrev pub parts_weight : Parts → ℕ
parts_weight [] = 0
parts_weight (p ∷ ps) = part_weight p + parts_weight ps

weight_of_part : (F : plain.Formula) → part_weight (as_part F) ≡ weight F
weight_of_part always = refl
weight_of_part never = refl
weight_of_part (atom P S) = refl
weight_of_part (conjunction Fs) = refl
weight_of_part (disjunction Fs) = refl

pub weight_of_parts : (Fs : List lent.Draft) → parts_weight (parts_of Fs) ≡ weights (formulas_from (map draft_of Fs))
weight_of_parts [] = refl
weight_of_parts (F ∷ Fs) = ap₂ ◌+◌ (weight_of_part (draft_of F)) (weight_of_parts Fs)

abbrev pub inner_of : Result plain.Formulas plain.Formula → plain.Formulas
inner_of (Ok Fs) = Fs
inner_of (Err F) = none

-- a list weighs more than its members
pub inner_weight : (all : Bool) (F : plain.Formula) (Fs : List lent.Draft) → opened all F ≡ Ok (formulas_from (map draft_of Fs))
    → suc (parts_weight (parts_of Fs)) ≡ part_weight (as_part F)
inner_weight true always Fs h = absurd (let e : Err always ≡ Ok (formulas_from (map draft_of Fs)) = h in cc)
inner_weight false always Fs h = absurd (let e : Err always ≡ Ok (formulas_from (map draft_of Fs)) = h in cc)
inner_weight true never Fs h = absurd (let e : Err never ≡ Ok (formulas_from (map draft_of Fs)) = h in cc)
inner_weight false never Fs h = absurd (let e : Err never ≡ Ok (formulas_from (map draft_of Fs)) = h in cc)
inner_weight true (atom P S) Fs h = absurd (let e : Err (atom P S) ≡ Ok (formulas_from (map draft_of Fs)) = h in cc)
inner_weight false (atom P S) Fs h = absurd (let e : Err (atom P S) ≡ Ok (formulas_from (map draft_of Fs)) = h in cc)
inner_weight true (disjunction Gs) Fs h = absurd (let e : Err (disjunction Gs) ≡ Ok (formulas_from (map draft_of Fs)) = h in cc)
inner_weight false (conjunction Gs) Fs h = absurd (let e : Err (conjunction Gs) ≡ Ok (formulas_from (map draft_of Fs)) = h in cc)
inner_weight true (conjunction Gs) Fs h =
    ap suc (weight_of_parts Fs ∙ ap weights (sym (ap inner_of h)))
inner_weight false (disjunction Gs) Fs h =
    ap suc (weight_of_parts Fs ∙ ap weights (sym (ap inner_of h)))

weight_append : (ps qs : Parts) → parts_weight (ps ++ qs) ≡ parts_weight ps + parts_weight qs
weight_append [] qs = omega arith
weight_append (p ∷ ps) qs = let rest = weight_append ps qs in omega arith

mutual
  flat_weight : (all : Bool) (F : plain.Formula) → parts_weight (flat_parts all F) ≤ weight F
  flat_weight true always = omega arith
  flat_weight false always = omega arith
  flat_weight true never = omega arith
  flat_weight false never = omega arith
  flat_weight true (atom P S) = omega arith
  flat_weight false (atom P S) = omega arith
  flat_weight true (conjunction Fs) = let rest = all_flat_weight true Fs in omega arith
  flat_weight true (disjunction Fs) = omega arith
  flat_weight false (conjunction Fs) = omega arith
  flat_weight false (disjunction Fs) = let rest = all_flat_weight false Fs in omega arith

  pub all_flat_weight : (all : Bool) (Fs : plain.Formulas) → parts_weight (all_flat_parts all Fs) ≤ weights Fs
  all_flat_weight all none = omega arith
  all_flat_weight all (more F Fs) =
      let first = flat_weight all F in
      let rest = all_flat_weight all Fs in
      let both = weight_append (flat_parts all F) (all_flat_parts all Fs) in omega arith

-- what is left weighs at most so much
abbrev pub IsAtMost : Option Parts → ℕ → Type 0
IsAtMost None n = Unit {0}
IsAtMost (Some ps) n = parts_weight ps ≤ n

weaker : (o : Option Parts) (m n : ℕ) → m ≤ n → IsAtMost o m → IsAtMost o n
weaker None m n h k = tt
weaker (Some ps) m n h k = let below : parts_weight ps ≤ m = k in omega arith

then_at_most : (o : Option Parts) (f : Parts → Option Parts) (n : ℕ) → IsAtMost o n → ((ps : Parts) → IsAtMost (f ps) (parts_weight ps))
    → IsAtMost (option_and_then f o) n
then_at_most None f n h k = tt
then_at_most (Some ps) f n h k = weaker (f ps) (parts_weight ps) n h (k ps)

in_front : (p : Part plain.Formula) (o : Option Parts) (n : ℕ) → IsAtMost o n → IsAtMost (option_map (λ qs. p ∷ qs) o) (part_weight p + n)
in_front p None n h = tt
in_front p (Some qs) n h = let below : parts_weight qs ≤ n = h in omega arith

met : (Q : List Monomial) (T : Signs) (ps : Parts) (o : Option Signs) → IsAtMost (option_map (λ R. condition Q R ∷ ps) o) (parts_weight (condition Q T ∷ ps))
met Q T ps None = tt
met Q T ps (Some R) = omega arith

condition_weight : (all : Bool) (P : List Monomial) (S : Signs) (ps : Parts) → IsAtMost (with_condition all P S ps) (parts_weight ps)
condition_weight all P S [] = omega arith
condition_weight all P S (settled b ∷ ps) = in_front (settled b) (with_condition all P S ps) (parts_weight ps) (condition_weight all P S ps)
condition_weight all P S (other F ∷ ps) = in_front (other F) (with_condition all P S ps) (parts_weight ps) (condition_weight all P S ps)
condition_weight all P S (condition Q T ∷ ps) =
    elim (is_same_poly Q P) as (λ b. IsAtMost (if b then option_map (λ R. condition Q R ∷ ps) (put_together all T S)
    else option_map (λ qs. condition Q T ∷ qs) (with_condition all P S ps)) (parts_weight (condition Q T ∷ ps))) [
      | true ↦ met Q T ps (put_together all T S)
      | false ↦ in_front (condition Q T) (with_condition all P S ps) (parts_weight ps) (condition_weight all P S ps)
    ]

after_put : (o : Option Parts) (f : Parts → Option Parts) (n k : ℕ) → IsAtMost o n → ((qs : Parts) → IsAtMost (f qs) (parts_weight qs + k))
    → IsAtMost (option_and_then f o) (n + k)
after_put None f n k h step = tt
after_put (Some qs) f n k h step =
    let below : parts_weight qs ≤ n = h in weaker (f qs) (parts_weight qs + k) (n + k) (omega arith) (step qs)

behind_weight : (all : Bool) (done ps : Parts) → IsAtMost (gathered_behind all done ps) (parts_weight done + parts_weight ps)
behind_weight all done [] = omega arith
behind_weight all done (settled b ∷ ps) =
    weaker (gathered_behind all (done ++ settled b ∷ []) ps) (parts_weight (done ++ settled b ∷ []) + parts_weight ps)
    (parts_weight done + parts_weight (settled b ∷ ps))
    (let both = weight_append done (settled b ∷ []) in omega arith) (behind_weight all (done ++ settled b ∷ []) ps)
behind_weight all done (other F ∷ ps) =
    weaker (gathered_behind all (done ++ other F ∷ []) ps) (parts_weight (done ++ other F ∷ []) + parts_weight ps)
    (parts_weight done + parts_weight (other F ∷ ps))
    (let both = weight_append done (other F ∷ []) in omega arith) (behind_weight all (done ++ other F ∷ []) ps)
behind_weight all done (condition P S ∷ ps) =
    weaker (gathered_behind all done (condition P S ∷ ps)) (parts_weight done + parts_weight ps)
    (parts_weight done + parts_weight (condition P S ∷ ps)) (omega arith)
    (after_put (with_condition all P S done) (λ qs. gathered_behind all qs ps) (parts_weight done) (parts_weight ps) (condition_weight all P S done)
    (λ qs. behind_weight all qs ps))

undecided_weight : (all : Bool) (ps : Parts) → IsAtMost (undecided all ps) (parts_weight ps)
undecided_weight all [] = omega arith
undecided_weight all (settled b ∷ ps) =
    elim (beq b all) as (λ c. IsAtMost (if c then undecided all ps else None) (parts_weight (settled b ∷ ps))) [
      | true ↦ weaker (undecided all ps) (parts_weight ps) (parts_weight (settled b ∷ ps)) (omega arith) (undecided_weight all ps)
      | false ↦ tt
    ]
undecided_weight all (condition P S ∷ ps) = in_front (condition P S) (undecided all ps) (parts_weight ps) (undecided_weight all ps)
undecided_weight all (other F ∷ ps) = in_front (other F) (undecided all ps) (parts_weight ps) (undecided_weight all ps)

judged_weight : (P : List Monomial) (S : Signs) (o : Option Bool) → part_weight (as_judged P S o) ≡ 0
judged_weight P S None = refl
judged_weight P S (Some b) = refl

facts_weight : (K : Facts) (ps : Parts) → parts_weight (map (by_facts K) ps) ≡ parts_weight ps
facts_weight K [] = refl
facts_weight K (settled b ∷ ps) = ap (λ (n : ℕ). 0 + n) (facts_weight K ps)
facts_weight K (condition P S ∷ ps) = ap₂ ◌+◌ (judged_weight P S (judged K P S)) (facts_weight K ps)
facts_weight K (other F ∷ ps) = ap (λ (n : ℕ). weight F + n) (facts_weight K ps)

open_at_most : (all : Bool) (K : Facts) (ps : Parts) → IsAtMost (open_parts all K ps) (parts_weight ps)
open_at_most all K ps =
    then_at_most (gathered all ps) (λ qs. undecided all (map (by_facts K) qs)) (parts_weight ps)
    (then_at_most (gathered_behind all [] ps) (undecided all) (parts_weight ps)
    (weaker (gathered_behind all [] ps) (0 + parts_weight ps) (parts_weight ps) (omega arith) (behind_weight all [] ps)) (undecided_weight all))
    (λ qs. weaker (undecided all (map (by_facts K) qs)) (parts_weight (map (by_facts K) qs)) (parts_weight qs)
    (let same = facts_weight K qs in omega arith) (undecided_weight all (map (by_facts K) qs)))

signs_weight : (K : Facts) (ps : Parts) → parts_weight (map (by_signs K) ps) ≡ parts_weight ps
signs_weight K [] = refl
signs_weight K (settled b ∷ ps) = ap (λ (n : ℕ). 0 + n) (signs_weight K ps)
signs_weight K (condition P S ∷ ps) = ap₂ ◌+◌ (judged_weight P S (judged_by_signs K P S)) (signs_weight K ps)
signs_weight K (other F ∷ ps) = ap (λ (n : ℕ). weight F + n) (signs_weight K ps)

beside_at_most : (all : Bool) (K : Facts) (ps : Parts) → IsAtMost (open_beside all K ps) (parts_weight ps)
beside_at_most all K ps =
    let L = facts_beside all ps K in
    weaker (undecided all (map (by_signs L) ps)) (parts_weight (map (by_signs L) ps)) (parts_weight ps)
    (let same = signs_weight L ps in omega arith) (undecided_weight all (map (by_signs L) ps))

open_for_at_most : (way : Judgement) (all : Bool) (K : Facts) (ps : Parts) → IsAtMost (open_for way all K ps) (parts_weight ps)
open_for_at_most ByFacts all K ps = open_at_most all K ps
open_for_at_most BySigns all K ps =
    then_at_most (open_parts all K ps) (open_beside all K) (parts_weight ps) (open_at_most all K ps) (beside_at_most all K)

-- what is left open weighs at most as much as the members
pub open_weight : (way : Judgement) (all : Bool) (K : Facts) (Fs : plain.Formulas) (flat left : Parts) → flat ≡ all_flat_parts all Fs
    → open_for way all K flat ≡ Some left → parts_weight left ≤ weights Fs
open_weight way all K Fs flat left is found =
    let h = open_for_at_most way all K flat in
    let same = all_flat_weight all Fs in
    let weighs = ap parts_weight is in
    let below : parts_weight left ≤ parts_weight flat = subst (λ o. IsAtMost o (parts_weight flat)) found h in
    omega arith
