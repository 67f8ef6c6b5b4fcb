-- The written sentences are met exactly where a point meets the model with the claim and makes the claim true, or not true.
use Rattle.std.proofs.Common.{◌≡◌, Bool, true, false, ◌&&◌, List, [], ◌∷◌, ◌++◌, map, Option, Some, None, refl, sym, ap, ◌∙◌, subst, ⊎_elim}
use Rattle.std.specs.Prelude.{◌↔◌}
use Rattle.std.proofs.lemmas.Bool.{and_parts, and_from, cases_Bool, not-true, not_from_false, both_ways}
use Rattle.theory_meaning.specs.declared.words.Rel.TheVariants.{Eq}
use Rattle.theory_meaning.specs.Divisors.{divisors_of_expr, divisors_of_claim}
use Rattle.theory_meaning.specs.Edit.{lines_alone}
use Rattle.theory_meaning.specs.Fraction.{same}
use Rattle.theory_meaning.specs.Half.{Half, found, found_wide, absent, left, IsRightHalf, IsRightHalfOf}
use Rattle.theory_meaning.specs.Model.{same_slopes, are_equal_sides, meets_line, meets_lines, meets_with, IsExample, IsCounter, IsRightAnswer}
use Rattle.theory_meaning.specs.Point.{Name, Point}
use Rattle.theory_meaning.specs.Question.{assumptions_of}
use Rattle.theory_meaning.specs.Slope.{slope_of}
use Rattle.theory_meaning.specs.Text.{Numbered}
use Rattle.theory_meaning.specs.Tree.{Expr, Claim, atom, negation, Line, equation, assume}
use Rattle.theory_meaning.specs.Truth.{value_of, truth_of, are_nonzero, stands, meets, Meets}
use Rattle.theory_meaning.specs.Verdict.{verdict_of_halves}
use Rattle.theory_derivative.specs.Derivative.{derivative}
use Rattle.theory_derivative.specs.Differentiated.{differentiated_by}
use Rattle.theory_derivative.specs.Sentence.{equations_of, equal_derivatives, shifted_equations, asked_before, example_of, counter_of}
use Rattle.theory_meaning.proofs.AnswerLaws.{right_answer}
use Rattle.theory_meaning.proofs.OrderLaws.{same_both}
use Rattle.theory_derivative.proofs.SlopeLaws.{derivatives_are_slopes}
use Rattle.theory_derivative.proofs.DivisorLaws.{safe_parts, safe_both, derivatives_keep_divisors}

-- two lists are met where each is
met-append : (cs ds : List Claim) (p : Point) → meets (cs ++ ds) p ≡ (meets cs p && meets ds p)
met-append [] ds p = refl
met-append (c ∷ cs) ds p = ap (λ (t : Bool). stands c p && t) (met-append cs ds p) ∙ and_assoc (stands c p) (meets cs p) (meets ds p)
  where
    and_assoc : (a b c : Bool) → (a && (b && c)) ≡ ((a && b) && c)
    and_assoc true b c = refl
    and_assoc false b c = refl

met_parts : (cs ds : List Claim) (p : Point) → meets (cs ++ ds) p ≡ true → (meets cs p ≡ true) × (meets ds p ≡ true)
met_parts cs ds p h = and_parts (meets cs p) (meets ds p) (sym (met-append cs ds p) ∙ h)

met_both : (cs ds : List Claim) (p : Point) → meets cs p ≡ true → meets ds p ≡ true → meets (cs ++ ds) p ≡ true
met_both cs ds p h k = met-append cs ds p ∙ and_from (meets cs p) (meets ds p) h k

-- the derivatives of two sides are the same exactly where their slopes are
sides : (all : List Numbered) (t : Name) (u v : Expr) (p : Point)
    → same (value_of (derivative all t u) p) (value_of (derivative all t v) p) ≡ same (slope_of all t u p) (slope_of all t v p)
sides all t u v p =
    same_both (value_of (derivative all t u) p) (slope_of all t u p) (value_of (derivative all t v) p) (slope_of all t v p)
    (derivatives_are_slopes all t u p) (derivatives_are_slopes all t v p)

-- no divisor in either of two sides
abbrev are_safe : Expr → Expr → Point → Bool
are_safe u v p = are_nonzero (divisors_of_expr u ++ divisors_of_expr v) p

-- an equation of the model is met where it and its derivative are
equation_from : (all : List Numbered) (t : Name) (u v : Expr) (p : Point) → stands (atom u Eq v) p ≡ true
    → stands (equal_derivatives (record { label = []; by = t; left = derivative all t u; right = derivative all t v })) p ≡ true
    → are_equal_sides all (Some t) u v p ≡ true
equation_from all t u v p h k =
    let values = and_parts (same (value_of u p) (value_of v p)) (are_safe u v p) h in
    let slopes = and_parts (same (value_of (derivative all t u) p) (value_of (derivative all t v) p)) (are_safe (derivative all t u) (derivative all t v) p) k in
    and_from (same (value_of u p) (value_of v p)) (same_slopes all (Some t) u v p && are_safe u v p) values.0
    (and_from (same_slopes all (Some t) u v p) (are_safe u v p) (sym (sides all t u v p) ∙ slopes.0) values.1)

-- and both are met where it is
record EquationMet (all : List Numbered) (t : Name) (u v : Expr) (p : Point) : Type 0 where
  values : stands (atom u Eq v) p ≡ true
  slopes : stands (atom (derivative all t u) Eq (derivative all t v)) p ≡ true

equation_to : (all : List Numbered) (t : Name) (u v : Expr) (p : Point) → are_equal_sides all (Some t) u v p ≡ true → EquationMet all t u v p
equation_to all t u v p h =
    let first = and_parts (same (value_of u p) (value_of v p)) (same_slopes all (Some t) u v p && are_safe u v p) h in
    let second = and_parts (same_slopes all (Some t) u v p) (are_safe u v p) first.1 in
    let parts = safe_parts (divisors_of_expr u) (divisors_of_expr v) p second.1 in
    record {
      values = and_from (same (value_of u p) (value_of v p)) (are_safe u v p) first.0 second.1;
      slopes = and_from (same (value_of (derivative all t u) p) (value_of (derivative all t v) p)) (are_safe (derivative all t u) (derivative all t v) p)
          (sides all t u v p ∙ second.0)
          (safe_both (divisors_of_expr (derivative all t u)) (divisors_of_expr (derivative all t v)) p
          (derivatives_keep_divisors all t u p parts.0) (derivatives_keep_divisors all t v p parts.1));
    }

-- the differentiated equations of lines, where a shift is named
shifted_in : List Numbered → Option Name → List Line → List Claim
shifted_in all None lines = []
shifted_in all (Some t) lines = map equal_derivatives (differentiated_by all t lines)

-- all conjuncts that lines give before the claim are met
record AreMet (all : List Numbered) (shift : Option Name) (lines : List Line) (p : Point) : Type 0 where
  values : meets (equations_of lines) p ≡ true
  slopes : meets (shifted_in all shift lines) p ≡ true
  assumed : meets (assumptions_of lines) p ≡ true

-- with one line more, both ways
line_from : (all : List Numbered) (shift : Option Name) (line : Line) (lines : List Line) (p : Point)
    → AreMet all shift (line ∷ lines) p → (meets_line all shift line p ≡ true) × AreMet all shift lines p
unfolding shifted_in
line_from all None (equation label u v) lines p h =
    let values = and_parts (stands (atom u Eq v) p) (meets (equations_of lines) p) h.values in
    (values.0, record { values = values.1; slopes = refl; assumed = h.assumed })
line_from all (Some t) (equation label u v) lines p h =
    let values = and_parts (stands (atom u Eq v) p) (meets (equations_of lines) p) h.values in
    let slopes = and_parts (stands (atom (derivative all t u) Eq (derivative all t v)) p) (meets (shifted_in all (Some t) lines) p) h.slopes in
    (equation_from all t u v p values.0 slopes.0, record { values = values.1; slopes = slopes.1; assumed = h.assumed })
line_from all None (assume label c) lines p h =
    let assumed = and_parts (stands c p) (meets (assumptions_of lines) p) h.assumed in
    (assumed.0, record { values = h.values; slopes = refl; assumed = assumed.1 })
line_from all (Some t) (assume label c) lines p h =
    let assumed = and_parts (stands c p) (meets (assumptions_of lines) p) h.assumed in
    (assumed.0, record { values = h.values; slopes = h.slopes; assumed = assumed.1 })
line_from all None _ lines p h = (refl, record { values = h.values; slopes = refl; assumed = h.assumed })
line_from all (Some t) _ lines p h = (refl, record { values = h.values; slopes = h.slopes; assumed = h.assumed })

line_to : (all : List Numbered) (shift : Option Name) (line : Line) (lines : List Line) (p : Point)
    → meets_line all shift line p ≡ true → AreMet all shift lines p → AreMet all shift (line ∷ lines) p
unfolding shifted_in
line_to all None (equation label u v) lines p h k =
    record { values = and_from (stands (atom u Eq v) p) (meets (equations_of lines) p) h k.values; slopes = refl; assumed = k.assumed }
line_to all (Some t) (equation label u v) lines p h k =
    let met = equation_to all t u v p h in
    record {
      values = and_from (stands (atom u Eq v) p) (meets (equations_of lines) p) met.values k.values;
      slopes = and_from (stands (atom (derivative all t u) Eq (derivative all t v)) p) (meets (shifted_in all (Some t) lines) p) met.slopes k.slopes;
      assumed = k.assumed;
    }
line_to all None (assume label c) lines p h k =
    record { values = k.values; slopes = refl; assumed = and_from (stands c p) (meets (assumptions_of lines) p) h k.assumed }
line_to all (Some t) (assume label c) lines p h k =
    record { values = k.values; slopes = k.slopes; assumed = and_from (stands c p) (meets (assumptions_of lines) p) h k.assumed }
line_to all None _ lines p h k = record { values = k.values; slopes = refl; assumed = k.assumed }
line_to all (Some t) _ lines p h k = record { values = k.values; slopes = k.slopes; assumed = k.assumed }

-- all lines, both ways
lines_from : (all : List Numbered) (shift : Option Name) (ns : List Numbered) (p : Point)
    → AreMet all shift (lines_alone ns) p → meets_lines all shift ns p ≡ true
lines_from all shift [] p h = refl
lines_from all shift (n ∷ ns) p h =
    let parts = line_from all shift n.line (lines_alone ns) p h in
    and_from (meets_line all shift n.line p) (meets_lines all shift ns p) parts.0 (lines_from all shift ns p parts.1)

lines_to : (all : List Numbered) (shift : Option Name) (ns : List Numbered) (p : Point)
    → meets_lines all shift ns p ≡ true → AreMet all shift (lines_alone ns) p
unfolding shifted_in
lines_to all shift [] p h = record { values = refl; slopes = nothing_met shift; assumed = refl }
  where
    nothing_met : (s : Option Name) → meets (shifted_in all s []) p ≡ true
    nothing_met None = refl
    nothing_met (Some t) = refl
lines_to all shift (n ∷ ns) p h =
    let parts = and_parts (meets_line all shift n.line p) (meets_lines all shift ns p) h in
    line_to all shift n.line (lines_alone ns) p parts.0 (lines_to all shift ns p parts.1)

-- the differentiated equations of a whole model
shifted_is : (lines : List Numbered) (shift : Option Name) → shifted_equations lines shift ≡ shifted_in lines shift (lines_alone lines)
unfolding shifted_in
shifted_is lines None = refl
shifted_is lines (Some t) = refl

-- the conjuncts before the claim, both ways
before_from : (lines : List Numbered) (shift : Option Name) (p : Point) → meets (asked_before lines shift) p ≡ true → meets_lines lines shift lines p ≡ true
before_from lines shift p h =
    let first = met_parts (equations_of (lines_alone lines)) (shifted_equations lines shift ++ assumptions_of (lines_alone lines)) p h in
    let rest = met_parts (shifted_equations lines shift) (assumptions_of (lines_alone lines)) p first.1 in
    lines_from lines shift lines p
    (record { values = first.0; slopes = subst (λ cs. meets cs p ≡ true) (shifted_is lines shift) rest.0; assumed = rest.1 })

before_to : (lines : List Numbered) (shift : Option Name) (p : Point) → meets_lines lines shift lines p ≡ true → meets (asked_before lines shift) p ≡ true
before_to lines shift p h =
    let met = lines_to lines shift lines p h in
    met_both (equations_of (lines_alone lines)) (shifted_equations lines shift ++ assumptions_of (lines_alone lines)) p met.values
    (met_both (shifted_equations lines shift) (assumptions_of (lines_alone lines)) p
    (subst (λ cs. meets cs p ≡ true) (sym (shifted_is lines shift)) met.slopes) met.assumed)

-- with one claim more, of the same divisors
with_from : (lines : List Numbered) (shift : Option Name) (c d : Claim) (p : Point)
    → divisors_of_claim d ≡ divisors_of_claim c → meets (asked_before lines shift ++ d ∷ []) p ≡ true
    → (meets_with lines shift c p ≡ true) × (truth_of d p ≡ true)
with_from lines shift c d p e h =
    let parts = met_parts (asked_before lines shift) (d ∷ []) p h in
    let last = and_parts (truth_of d p) (are_nonzero (divisors_of_claim d) p) (and_parts (stands d p) true parts.1).0 in (
      and_from (meets_lines lines shift lines p) (are_nonzero (divisors_of_claim c) p) (before_from lines shift p parts.0)
          (sym (ap (λ vs. are_nonzero vs p) e) ∙ last.1),
      last.0,
    )

with_to : (lines : List Numbered) (shift : Option Name) (c d : Claim) (p : Point)
    → divisors_of_claim d ≡ divisors_of_claim c → meets_with lines shift c p ≡ true → truth_of d p ≡ true
    → meets (asked_before lines shift ++ d ∷ []) p ≡ true
with_to lines shift c d p e h k =
    let parts = and_parts (meets_lines lines shift lines p) (are_nonzero (divisors_of_claim c) p) h in
    met_both (asked_before lines shift) (d ∷ []) p (before_to lines shift p parts.0)
    (and_from (stands d p) true
    (and_from (truth_of d p) (are_nonzero (divisors_of_claim d) p) k (ap (λ vs. are_nonzero vs p) e ∙ parts.1)) refl)

-- the example sentence and the counterexample sentence
pub examples_meet_their_sentence : (lines : List Numbered) (shift : Option Name) (c : Claim) (p : Point)
    → Meets (example_of lines shift c) p ↔ IsExample lines shift c p
examples_meet_their_sentence lines shift c p = (with_from lines shift c c p refl, λ h. with_to lines shift c c p refl h.0 h.1)

pub counters_meet_their_sentence : (lines : List Numbered) (shift : Option Name) (c : Claim) (p : Point)
    → Meets (counter_of lines shift c) p ↔ IsCounter lines shift c p
counters_meet_their_sentence lines shift c p = (
  λ h. let parts = with_from lines shift c (negation c) p refl h in
      (parts.0, λ t. both_ways (truth_of c p) (not-true (truth_of c p) parts.1) t),
  λ h. with_to lines shift c (negation c) p refl h.0
      (⊎_elim (λ t. absurd (h.1 t)) (λ f. not_from_false (truth_of c p) f) (cases_Bool (truth_of c p))),
)

-- a half that is right for some points is right for the same points said otherwise
right_alike : (P Q : Point → Type 0) → ((p : Point) → P p ↔ Q p) → (h : Half) → IsRightHalfOf P h → IsRightHalfOf Q h
right_alike P Q same (found p) k = (same p).0 k
right_alike P Q same found_wide k = (k.0, (same k.0).0 k.1)
right_alike P Q same absent k = λ p q. k p ((same p).1 q)
right_alike P Q same (left cause) k = tt

-- so right halves of the two sentences give the right answer
pub sentences_give_the_right_answer : (lines : List Numbered) (shift : Option Name) (c : Claim) (example counter : Half)
    → IsRightHalf (example_of lines shift c) example → IsRightHalf (counter_of lines shift c) counter
    → IsRightAnswer lines shift c example counter (verdict_of_halves example counter)
sentences_give_the_right_answer lines shift c example counter e k =
    right_answer lines shift c example counter
    (right_alike (Meets (example_of lines shift c)) (IsExample lines shift c) (examples_meet_their_sentence lines shift c) example e)
    (right_alike (Meets (counter_of lines shift c)) (IsCounter lines shift c) (counters_meet_their_sentence lines shift c) counter k)
