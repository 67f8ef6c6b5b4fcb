-- A lowered formula is true exactly where its claims are.
use Rattle.std.proofs.Common.{◌≡◌, ◌≤◌, Bool, true, false, not, List, [], ◌∷◌, ◌++◌, length, refl, ap, ap₂, ◌∙◌}
use Rattle.std.specs.Prelude.{◌&&◌, ◌||◌}
use Rattle.std.specs.Bool.{beq}
use Rattle.theory_meaning.specs.declared.words.Rel.{Rel}
use Rattle.theory_meaning.specs.declared.words.Rel.TheVariants.{Eq, Ne, Lt, Le, Gt, Ge}
use Rattle.theory_meaning.specs.Divisors.{divisors_of_expr, divisors_of_claim, divisors_of_claims}
use Rattle.theory_meaning.specs.Fraction.{Fraction, difference_of}
use Rattle.theory_meaning.specs.Point.{Name, Point}
use Rattle.theory_meaning.specs.Tree.{Expr, difference, Claim, Claims, always, never, atom, negation, conjunction, disjunction, implication, equivalence, none, more, claims_from}
use Rattle.theory_meaning.specs.Truth.{value_of, holds, truth_of, all_of, some_of, are_nonzero, meets}
use Rattle.theory_formula.specs.Signs.{signs_of}
use Rattle.theory_formula.specs.Formula as plain
use Rattle.theory_lowering.specs.NormalForm.{opposite_rel, normal_form, negated_form, normal_forms, negated_forms}
use Rattle.theory_lowering.specs.Lowered.{values_of, IsComparison, IsFormulaOf, AreFormulasOf, IsLowered}
use Rattle.theory_lowering.specs.LoweringLimits.{IsListedExpr, IsListedClaim, AreListedClaims, AreListed}
use Rattle.theory_formula.proofs.FormulaLaws.{sign_of_difference}
use Rattle.theory_lowering.proofs.ConditionsOnForms.{condition_on_truth}
use Rattle.theory_lowering.proofs.DivisorLaws.{guarded, all_true, all_before, right_claims}
use Rattle.theory_lowering.proofs.FormValues.{are_nonzero-append, each_nonzero, form_stands}
use Rattle.theory_lowering.proofs.SingleLowered.{form}

not_not : (b : Bool) → b ≡ not (not b)
not_not true = refl
not_not false = refl

opposite_holds : (rel : Rel) (a b : Fraction) → holds (opposite_rel rel) a b ≡ not (holds rel a b)
opposite_holds Eq a b = refl
opposite_holds Ne a b = not_not (holds Eq a b)
opposite_holds Lt a b = refl
opposite_holds Le a b = not_not (holds Gt a b)
opposite_holds Gt a b = refl
opposite_holds Ge a b = not_not (holds Lt a b)

-- connectives
either_is_implication : (a b : Bool) → not a || (b || false) ≡ not a || b
either_is_implication true true = refl
either_is_implication true false = refl
either_is_implication false b = refl

both_is_failure : (a b : Bool) → a && (not b && true) ≡ not (not a || b)
both_is_failure true true = refl
both_is_failure true false = refl
both_is_failure false b = refl

agreement : (a b : Bool) → (a && (b && true)) || ((not a && (not b && true)) || false) ≡ beq a b
agreement true true = refl
agreement true false = refl
agreement false true = refl
agreement false false = refl

disagreement : (a b : Bool) → (a && (not b && true)) || ((not a && (b && true)) || false) ≡ not (beq a b)
disagreement true true = refl
disagreement true false = refl
disagreement false true = refl
disagreement false false = refl

not_all : (a b : Bool) → not a || not b ≡ not (a && b)
not_all true b = refl
not_all false b = refl

not_some : (a b : Bool) → not a && not b ≡ not (a || b)
not_some true b = refl
not_some false b = refl

both_swapped : (a b : Bool) → a && b ≡ b && a
both_swapped true true = refl
both_swapped true false = refl
both_swapped false true = refl
both_swapped false false = refl

-- the truth of the claims, where none of their divisors is 0
module _ (ns : List Name) (p : Point) (few : length ns ≤ 32) where
  abbrev reading : plain.Reading
  reading = plain.reading_at (values_of ns p)

  -- a comparison
  comparison_truth : (u v : Expr) (rel : Rel) (F : plain.Formula) → IsListedExpr ns u → IsListedExpr ns v
      → are_nonzero (divisors_of_expr u ++ divisors_of_expr v) p ≡ true → IsComparison ns u rel v F
      → plain.truth_by reading F ≡ holds rel (value_of u p) (value_of v p)
  comparison_truth u v rel F hu hv d h =
      condition_on_truth h.0 (values_of ns p) (difference_of (value_of u p) (value_of v p)) ((form ns (difference u v)).reduced h.0 h.1)
      (form_stands ns p few (difference u v) h.0 (hu, hv) d h.1) (signs_of rel) F h.2
      ∙ sign_of_difference rel (value_of u p) (value_of v p)

  -- a conjunction or disjunction of two
  both_truth : (A B : Claim) (F : plain.Formula) (a b : Bool) → IsFormulaOf ns (conjunction (more A (more B none))) F
      → ((G : plain.Formula) → IsFormulaOf ns A G → plain.truth_by reading G ≡ a)
      → ((G : plain.Formula) → IsFormulaOf ns B G → plain.truth_by reading G ≡ b)
      → plain.truth_by reading F ≡ a && (b && true)
  both_truth A B F a b h first second =
      let pair = h.1 in
      let rest = pair.3 in
      ap (plain.truth_by reading) (h.2 ∙ ap plain.conjunction (pair.4 ∙ ap (plain.more pair.0) (rest.4 ∙ ap (plain.more rest.0) rest.3)))
      ∙ ap₂ (λ (m n : Bool). m && (n && true)) (first pair.0 pair.2) (second rest.0 rest.2)

  either_truth : (A B : Claim) (F : plain.Formula) (a b : Bool) → IsFormulaOf ns (disjunction (more A (more B none))) F
      → ((G : plain.Formula) → IsFormulaOf ns A G → plain.truth_by reading G ≡ a)
      → ((G : plain.Formula) → IsFormulaOf ns B G → plain.truth_by reading G ≡ b)
      → plain.truth_by reading F ≡ a || (b || false)
  either_truth A B F a b h first second =
      let pair = h.1 in
      let rest = pair.3 in
      ap (plain.truth_by reading) (h.2 ∙ ap plain.disjunction (pair.4 ∙ ap (plain.more pair.0) (rest.4 ∙ ap (plain.more rest.0) rest.3)))
      ∙ ap₂ (λ (m n : Bool). m || (n || false)) (first pair.0 pair.2) (second rest.0 rest.2)

  -- no divisor of a claim is 0
  abbrev AreApart : Claim → Type 0
  AreApart c = are_nonzero (divisors_of_claim c) p ≡ true

  mutual
    normal_truth : (c : Claim) (F : plain.Formula) → IsListedClaim ns c → AreApart c → IsFormulaOf ns (normal_form c) F
        → plain.truth_by reading F ≡ truth_of c p
    normal_truth always F l d h = ap (plain.truth_by reading) h
    normal_truth never F l d h = ap (plain.truth_by reading) h
    normal_truth (atom u rel v) F l d h = comparison_truth u v rel F l.0 l.1 d h
    normal_truth (negation c) F l d h = negated_truth c F l d h
    normal_truth (conjunction cs) F l d h = ap (plain.truth_by reading) h.2 ∙ all_normal cs h.0 l d h.1
    normal_truth (disjunction cs) F l d h = ap (plain.truth_by reading) h.2 ∙ some_normal cs h.0 l d h.1
    normal_truth (implication a b) F l d h =
        let each = each_nonzero (divisors_of_claim a) (divisors_of_claim b) p d in
        either_truth (negated_form a) (normal_form b) F (not (truth_of a p)) (truth_of b p) h
        (λ G k. negated_truth a G l.0 each.0 k) (λ G k. normal_truth b G l.1 each.1 k)
        ∙ either_is_implication (truth_of a p) (truth_of b p)
    normal_truth (equivalence a b) F l d h =
        let each = each_nonzero (divisors_of_claim a) (divisors_of_claim b) p d in
        let x : Bool = truth_of a p in
        let y : Bool = truth_of b p in
        either_truth (conjunction (more (normal_form a) (more (normal_form b) none))) (conjunction (more (negated_form a) (more (negated_form b) none))) F
        (x && (y && true)) (not x && (not y && true)) h
        (λ G k. both_truth (normal_form a) (normal_form b) G x y k (λ H m. normal_truth a H l.0 each.0 m) (λ H m. normal_truth b H l.1 each.1 m))
        (λ G k. both_truth (negated_form a) (negated_form b) G (not x) (not y) k (λ H m. negated_truth a H l.0 each.0 m)
        (λ H m. negated_truth b H l.1 each.1 m))
        ∙ agreement x y

    negated_truth : (c : Claim) (F : plain.Formula) → IsListedClaim ns c → AreApart c → IsFormulaOf ns (negated_form c) F
        → plain.truth_by reading F ≡ not (truth_of c p)
    negated_truth always F l d h = ap (plain.truth_by reading) h
    negated_truth never F l d h = ap (plain.truth_by reading) h
    negated_truth (atom u rel v) F l d h =
        comparison_truth u v (opposite_rel rel) F l.0 l.1 d h ∙ opposite_holds rel (value_of u p) (value_of v p)
    negated_truth (negation c) F l d h = normal_truth c F l d h ∙ not_not (truth_of c p)
    negated_truth (conjunction cs) F l d h = ap (plain.truth_by reading) h.2 ∙ some_negated cs h.0 l d h.1
    negated_truth (disjunction cs) F l d h = ap (plain.truth_by reading) h.2 ∙ all_negated cs h.0 l d h.1
    negated_truth (implication a b) F l d h =
        let each = each_nonzero (divisors_of_claim a) (divisors_of_claim b) p d in
        both_truth (normal_form a) (negated_form b) F (truth_of a p) (not (truth_of b p)) h
        (λ G k. normal_truth a G l.0 each.0 k) (λ G k. negated_truth b G l.1 each.1 k)
        ∙ both_is_failure (truth_of a p) (truth_of b p)
    negated_truth (equivalence a b) F l d h =
        let each = each_nonzero (divisors_of_claim a) (divisors_of_claim b) p d in
        let x : Bool = truth_of a p in
        let y : Bool = truth_of b p in
        either_truth (conjunction (more (normal_form a) (more (negated_form b) none))) (conjunction (more (negated_form a) (more (normal_form b) none))) F
        (x && (not y && true)) (not x && (y && true)) h
        (λ G k. both_truth (normal_form a) (negated_form b) G x (not y) k (λ H m. normal_truth a H l.0 each.0 m) (λ H m. negated_truth b H l.1 each.1 m))
        (λ G k. both_truth (negated_form a) (normal_form b) G (not x) y k (λ H m. negated_truth a H l.0 each.0 m) (λ H m. normal_truth b H l.1 each.1 m))
        ∙ disagreement x y

    all_normal : (cs : Claims) (Fs : plain.Formulas) → AreListedClaims ns cs → are_nonzero (divisors_of_claims cs) p ≡ true
        → AreFormulasOf ns (normal_forms cs) Fs → plain.all_by reading Fs ≡ all_of cs p
    all_normal none Fs l d h = ap (plain.all_by reading) h
    all_normal (more c cs) Fs l d h =
        let each = each_nonzero (divisors_of_claim c) (divisors_of_claims cs) p d in
        ap (plain.all_by reading) h.4 ∙ ap₂ ◌&&◌ (normal_truth c h.0 l.0 each.0 h.2) (all_normal cs h.1 l.1 each.1 h.3)

    some_normal : (cs : Claims) (Fs : plain.Formulas) → AreListedClaims ns cs → are_nonzero (divisors_of_claims cs) p ≡ true
        → AreFormulasOf ns (normal_forms cs) Fs → plain.some_by reading Fs ≡ some_of cs p
    some_normal none Fs l d h = ap (plain.some_by reading) h
    some_normal (more c cs) Fs l d h =
        let each = each_nonzero (divisors_of_claim c) (divisors_of_claims cs) p d in
        ap (plain.some_by reading) h.4 ∙ ap₂ ◌||◌ (normal_truth c h.0 l.0 each.0 h.2) (some_normal cs h.1 l.1 each.1 h.3)

    some_negated : (cs : Claims) (Fs : plain.Formulas) → AreListedClaims ns cs → are_nonzero (divisors_of_claims cs) p ≡ true
        → AreFormulasOf ns (negated_forms cs) Fs → plain.some_by reading Fs ≡ not (all_of cs p)
    some_negated none Fs l d h = ap (plain.some_by reading) h
    some_negated (more c cs) Fs l d h =
        let each = each_nonzero (divisors_of_claim c) (divisors_of_claims cs) p d in
        ap (plain.some_by reading) h.4 ∙ ap₂ ◌||◌ (negated_truth c h.0 l.0 each.0 h.2) (some_negated cs h.1 l.1 each.1 h.3)
        ∙ not_all (truth_of c p) (all_of cs p)

    all_negated : (cs : Claims) (Fs : plain.Formulas) → AreListedClaims ns cs → are_nonzero (divisors_of_claims cs) p ≡ true
        → AreFormulasOf ns (negated_forms cs) Fs → plain.all_by reading Fs ≡ not (some_of cs p)
    all_negated none Fs l d h = ap (plain.all_by reading) h
    all_negated (more c cs) Fs l d h =
        let each = each_nonzero (divisors_of_claim c) (divisors_of_claims cs) p d in
        ap (plain.all_by reading) h.4 ∙ ap₂ ◌&&◌ (negated_truth c h.0 l.0 each.0 h.2) (all_negated cs h.1 l.1 each.1 h.3)
        ∙ not_some (truth_of c p) (some_of cs p)

-- the points that meet the claims are those where no divisor is 0 and all claims are true
regrouped : (a b c d : Bool) → (a && b) && (c && d) ≡ (a && c) && (b && d)
regrouped true true c d = refl
regrouped true false true d = refl
regrouped true false false d = refl
regrouped false b c d = refl

meets_is_all : (cs : List Claim) (p : Point) → all_of (claims_from cs) p && are_nonzero (divisors_of_claims (claims_from cs)) p ≡ meets cs p
meets_is_all [] p = refl
meets_is_all (c ∷ cs) p =
    let t : Bool = truth_of c p in
    let all : Bool = all_of (claims_from cs) p in
    let own : Bool = are_nonzero (divisors_of_claim c) p in
    let others : Bool = are_nonzero (divisors_of_claims (claims_from cs)) p in
    ap (λ b. (t && all) && b) (are_nonzero-append (divisors_of_claim c) (divisors_of_claims (claims_from cs)) p)
    ∙ regrouped t all own others ∙ ap (λ b. (t && own) && b) (meets_is_all cs p)

pub lowered_truth : (ns : List Name) (cs : List Claim) (F : plain.Formula) (p : Point) → length ns ≤ 32 → AreListed ns cs → IsLowered ns cs F
    → plain.truth_at F (values_of ns p) ≡ meets cs p
lowered_truth ns cs F p few l h =
    let reading : plain.Reading = plain.reading_at (values_of ns p) in
    let divisors : Bool = are_nonzero (divisors_of_claims (claims_from cs)) p in
    ap (plain.truth_by reading) h.4 ∙ all_before ns p few h.0 h.1
    ∙ both_swapped (all_true ns p few h.0) (plain.all_by reading h.1)
    ∙ guarded (plain.all_by reading h.1) (all_of (claims_from cs) p) (all_true ns p few h.0) divisors
    (right_claims ns p few (claims_from cs) l h.0 h.2) (λ d. all_normal ns p few (claims_from cs) h.1 l d h.3)
    ∙ meets_is_all cs p
