-- Lists of the kind are opened, and members are simplified step by step.
use Rattle.std.proofs.Common.{◌≡◌, Bool, true, false, not, List, [], ◌∷◌, ◌++◌, map, Option, None, Some, Result, Ok, Err, IfOk, Vec, Global, option_map, option_and_then, refl, sym, ap, ◌∙◌}
use Rattle.std.proofs.lemmas.List.{append_assoc}
use Rattle.theory_formula.specs.Formula as plain
use Rattle.theory_formula.specs.Formula.{always, never, atom, conjunction, disjunction, more, formulas_from, formulas_list, truth_at}
use Rattle.theory_polynomial.specs.PolynomialValue.{Values}
use Rattle.theory_formula.specs.SignCondition.{decided}
use Rattle.theory_elimination.specs.Facts.{Facts}
use Rattle.theory_elimination.specs.Judging.{Judging}
use Rattle.theory_meaning.specs.declared.words.Kind.TheVariants as kind
use Rattle.theory_signed.specs.Split.{split, IsOrdered}
use Rattle.theory_signed.specs.Signed.{by_known_and_signs}
use Rattle.theory_signed.specs.ByKind.{simplified_for}
use Rattle.theory_signed.proofs.KindTruth.{kind_truth}
use Rattle.theory_elimination.specs.Simplified.{Part, as_part, simplified, simplified_by, spliced, gathered, facts_within, members_under, finished, simplified_list_by, all_parts_by}
use Rattle.theory_elimination.proofs.SimplifiedTruth.{simplified_truth}
use Rattle.theory_points.specs.declared.limit.NoMemory.{NoMemory}
use Rattle.theory_signs.specs.declared.formula.Formula as made
use Rattle.theory_signs.specs.Plain.{formula_of}
use Rattle.theory_simplify.specs.declared.drafts.Draft as lent
use Rattle.theory_simplify.specs.Drafts.{draft_of}
use Rattle.theory_simplify.specs.declared.judgement.Judgement.{Judgement}
use Rattle.theory_simplify.specs.Parts.{part_of, parts_of, parts_in, waiting, member_form, all_flat_parts, opened, AreParts}
use Rattle.theory_simplify.specs.Judged.{judging_of, open_for}
use Rattle.theory_simplify.proofs.Weights.{inner_of}
use Rattle.theory_simplify.proofs.WaitingLemmas.{open_waits_for, within_waits, all_flat_wait}

abbrev Parts : Type 0
Parts = List (Part plain.Formula)

list_of_from : (Fs : List plain.Formula) → formulas_list (formulas_from Fs) ≡ Fs
list_of_from [] = refl
list_of_from (F ∷ Fs) = ap (λ (Gs : List plain.Formula). F ∷ Gs) (list_of_from Fs)

parts_from : (Fs : List lent.Draft) → map as_part (map draft_of Fs) ≡ parts_of Fs
parts_from [] = refl
parts_from (F ∷ Fs) = ap (λ (ps : Parts). part_of F ∷ ps) (parts_from Fs)

listed_parts : (Gs : plain.Formulas) (Fs : List lent.Draft) → Gs ≡ formulas_from (map draft_of Fs) → map as_part (formulas_list Gs) ≡ parts_of Fs
listed_parts Gs Fs same =
    ap (λ (Hs : plain.Formulas). map as_part (formulas_list Hs)) same ∙ ap (map as_part) (list_of_from (map draft_of Fs)) ∙ parts_from Fs

-- the members of a list of the kind, spliced or flattened
pub opened_spliced : (all : Bool) (F : plain.Formula) (Fs : List lent.Draft) → opened all F ≡ Ok (formulas_from (map draft_of Fs))
    → spliced all F ≡ parts_of Fs
opened_spliced true always Fs h = absurd (let e : Err always ≡ Ok (formulas_from (map draft_of Fs)) = h in cc)
opened_spliced false always Fs h = absurd (let e : Err always ≡ Ok (formulas_from (map draft_of Fs)) = h in cc)
opened_spliced true never Fs h = absurd (let e : Err never ≡ Ok (formulas_from (map draft_of Fs)) = h in cc)
opened_spliced false never Fs h = absurd (let e : Err never ≡ Ok (formulas_from (map draft_of Fs)) = h in cc)
opened_spliced true (atom P S) Fs h = absurd (let e : Err (atom P S) ≡ Ok (formulas_from (map draft_of Fs)) = h in cc)
opened_spliced false (atom P S) Fs h = absurd (let e : Err (atom P S) ≡ Ok (formulas_from (map draft_of Fs)) = h in cc)
opened_spliced true (disjunction Gs) Fs h = absurd (let e : Err (disjunction Gs) ≡ Ok (formulas_from (map draft_of Fs)) = h in cc)
opened_spliced false (conjunction Gs) Fs h = absurd (let e : Err (conjunction Gs) ≡ Ok (formulas_from (map draft_of Fs)) = h in cc)
opened_spliced true (conjunction Gs) Fs h =
    listed_parts Gs Fs (ap inner_of h)
opened_spliced false (disjunction Gs) Fs h =
    listed_parts Gs Fs (ap inner_of h)

-- members that were made are those that are written
pub parts_are : (wanted : Option Parts) (found : Option (Vec lent.Draft Global)) → AreParts wanted found → wanted ≡ option_map parts_in found
parts_are wanted None h = h
parts_are wanted (Some Fs) h = h

-- what is left open waits for more facts
waits : (way : Judgement) (all : Bool) (K : Facts) (Fs : plain.Formulas) (flat : Parts) → flat ≡ all_flat_parts all Fs
    → option_map (waiting (judging_of way)) (open_for way all K flat) ≡ (judging_of way).open_members all K (all_parts_by (judging_of way) all Fs)
waits way all K Fs flat is =
    let J : Judging = judging_of way in
    sym (open_waits_for J way all K flat) ∙ ap (λ (ps : Parts). J.open_members all K (waiting J ps)) is
    ∙ ap (J.open_members all K) (all_flat_wait J all Fs)

-- the steps give the written form
pub simplified_from : (way : Judgement) (all : Bool) (K : Facts) (Fs : plain.Formulas) (flat left simple : Parts) (W : Facts) (found : Option Parts)
    → flat ≡ all_flat_parts all Fs → open_for way all K flat ≡ Some left → W ≡ facts_within all left K
    → simple ≡ members_under all W (waiting (judging_of way) left) → gathered all simple ≡ found
    → finished all found ≡ simplified_list_by (judging_of way) all K (all_parts_by (judging_of way) all Fs)
simplified_from way all K Fs flat left simple W found is leaves within under once =
    let J : Judging = judging_of way in
    ap (finished all)
    (sym once ∙ ap (gathered all) (under ∙ ap (λ (L : Facts). members_under all L (waiting J left)) (within ∙ sym (within_waits J all left K)))
    ∙ ap (option_and_then (λ qs. gathered all (members_under all (facts_within all qs K) qs)))
    (ap (option_map (waiting J)) (sym leaves) ∙ waits way all K Fs flat is))

pub decided_from : (way : Judgement) (all : Bool) (K : Facts) (Fs : plain.Formulas) (flat : Parts) → flat ≡ all_flat_parts all Fs
    → open_for way all K flat ≡ None → decided (not all) ≡ simplified_list_by (judging_of way) all K (all_parts_by (judging_of way) all Fs)
decided_from way all K Fs flat is leaves =
    ap (finished all) (ap (option_and_then (λ qs. gathered all (members_under all (facts_within all qs K) qs)))
    (ap (option_map (waiting (judging_of way))) (sym leaves) ∙ waits way all K Fs flat is))

-- one member simplified
member_first : (J : Judging) (all : Bool) (K : Facts) (F : plain.Formula) (ps : Parts)
    → members_under all K (waiting J (as_part F ∷ ps)) ≡ spliced all (member_form J K F) ++ members_under all K (waiting J ps)
member_first J true K always ps = refl
member_first J false K always ps = refl
member_first J true K never ps = refl
member_first J false K never ps = refl
member_first J true K (atom P S) ps = refl
member_first J false K (atom P S) ps = refl
member_first J true K (conjunction Fs) ps = refl
member_first J false K (conjunction Fs) ps = refl
member_first J true K (disjunction Fs) ps = refl
member_first J false K (disjunction Fs) ps = refl

pub member_step : (J : Judging) (all : Bool) (K : Facts) (done new : Parts) (F : lent.Draft) (Fs : List lent.Draft) (H : plain.Formula)
    → H ≡ member_form J K (draft_of F) → new ≡ done ++ spliced all H
    → new ++ members_under all K (waiting J (parts_of Fs)) ≡ done ++ members_under all K (waiting J (parts_of (F ∷ Fs)))
member_step J all K done new F Fs H simple grown =
    let rest = members_under all K (waiting J (parts_of Fs)) in
    ap (λ (ps : Parts). ps ++ rest) grown
    ∙ append_assoc done (spliced all H) rest
    ∙ ap (λ (X : plain.Formula). done ++ (spliced all X ++ rest)) simple
    ∙ ap (λ (ps : Parts). done ++ ps) (sym (member_first J all K (draft_of F) (parts_of Fs)))

-- the simplified form has the truth of the formula at each point
pub kept_truth : (F : plain.Formula) (result : Result made.Formula NoMemory) → IfOk result (λ R. formula_of R ≡ simplified F)
    → IfOk result (λ R. (p : Values) → truth_at (formula_of R) p ≡ truth_at F p)
kept_truth F (Ok R) h = λ p. ap (λ (X : plain.Formula). truth_at X p) h ∙ simplified_truth p [] F tt
kept_truth F (Err e) h = tt

-- and so has the form by signs
pub form_by_signs : (F G : plain.Formula) (result : Result made.Formula NoMemory) → G ≡ split F
    → IfOk result (λ R. formula_of R ≡ simplified_by by_known_and_signs [] G) → IfOk result (λ R. formula_of R ≡ simplified_for kind.Signed F)
form_by_signs F G (Ok R) parts h = h ∙ ap (simplified_by by_known_and_signs []) parts
form_by_signs F G (Err e) parts h = tt

pub kept_by_signs : (F : plain.Formula) (result : Result made.Formula NoMemory) → IsOrdered F
    → IfOk result (λ R. formula_of R ≡ simplified_for kind.Signed F) → IfOk result (λ R. (p : Values) → truth_at (formula_of R) p ≡ truth_at F p)
kept_by_signs F (Ok R) ordered h = λ p. ap (λ (X : plain.Formula). truth_at X p) h ∙ kind_truth p kind.Signed F ordered
kept_by_signs F (Err e) ordered h = tt
