-- The claim of a list of members, the powers that are left, and whole numbers as fractions.
use Rattle.std.proofs.Common.{◌≡◌, ℕ, ◌<◌, ◌≤◌, ◌*ℤ◌, ℤ, pos, min, List, [], ◌∷◌, length, map, drop, Vec, Global, refl, sym, ap, ◌∙◌, arith, Result, Ok, Err, IfOk}
use Rattle.theory_points.specs.declared.limit.NoMemory.{NoMemory}
use Rattle.std.proofs.lemmas.Int.{ints}
use Rattle.std.proofs.lemmas.List.{length-drop}
use Rattle.std.proofs.Math.Nat.{eq-one_of_dvd-one}
use Rattle.theory_meaning.specs.Fraction.{Fraction, den, whole}
use Rattle.theory_meaning.specs.Limits.{bound}
use Rattle.theory_meaning.specs.Point.{Name, Point}
use Rattle.theory_meaning.specs.Truth.{truth_of}
use Rattle.theory_lowering.specs.Lowered.{values_of}
use Rattle.theory_lowering.proofs.WrittenLaws.{written_truth}
use Rattle.theory_points.specs.Parts.{IsKept, IsQuotient, IsWideQuotient}
use Rattle.theory_points.proofs.KeptLemmas.{same_parts}
use Rattle.theory_formula.specs.Formula as formula
use Rattle.theory_signs.specs.declared.formula.Formula as made
use Rattle.theory_signs.specs.Plain.{formula_of}
use Rattle.theory_signs.proofs.PlainLemmas.{formula_of-And, formula_of-Or}
use Rattle.theory_meaning.specs.Tree as plain
use Rattle.theory_lowering.specs.WrittenClaim.{both_of, either_of, factors_of, written_claim, written_claims}
use Rattle.theory_formula.specs.Symbols.{IsNamed}
use Rattle.theory_syntax.specs.declared.claim.Claim.{Claim, Claim-F, fold-roll-Claim}
use Rattle.theory_syntax.specs.declared.claim.Claim.TheVariants.{And, Or, rolls-And, rolls-Or}
use Rattle.theory_syntax.specs.Plain.{claim_of, claim_step}

claim_of-And : (cs : Vec Claim Global) → claim_of (And cs) ≡ plain.conjunction (plain.claims_from (map claim_of cs.items))
claim_of-And cs = ap claim_of (sym (rolls-And cs)) ∙ fold-roll-Claim plain.Claim claim_step (Claim-F.And cs)

claim_of-Or : (cs : Vec Claim Global) → claim_of (Or cs) ≡ plain.disjunction (plain.claims_from (map claim_of cs.items))
claim_of-Or cs = ap claim_of (sym (rolls-Or cs)) ∙ fold-roll-Claim plain.Claim claim_step (Claim-F.Or cs)

-- more members than one are a list
both_many : (cs : List plain.Claim) → 1 < length cs → plain.conjunction (plain.claims_from cs) ≡ both_of (plain.claims_from cs)
both_many [] h = absurd (omega arith)
both_many (c ∷ []) h = absurd (omega arith)
both_many (c ∷ d ∷ cs) h = refl

either_many : (cs : List plain.Claim) → 1 < length cs → plain.disjunction (plain.claims_from cs) ≡ either_of (plain.claims_from cs)
either_many [] h = absurd (omega arith)
either_many (c ∷ []) h = absurd (omega arith)
either_many (c ∷ d ∷ cs) h = refl

mapped_many : (cs : List Claim) → 1 < length cs → 1 < length (map claim_of cs)
mapped_many [] h = absurd (omega arith)
mapped_many (c ∷ []) h = absurd (omega arith)
mapped_many (c ∷ d ∷ cs) h = omega arith

pub both_is_list : (cs : Vec Claim Global) → 1 < length cs.items → claim_of (And cs) ≡ both_of (plain.claims_from (map claim_of cs.items))
both_is_list cs h = claim_of-And cs ∙ both_many (map claim_of cs.items) (mapped_many cs.items h)

pub either_is_list : (cs : Vec Claim Global) → 1 < length cs.items → claim_of (Or cs) ≡ either_of (plain.claims_from (map claim_of cs.items))
either_is_list cs h = claim_of-Or cs ∙ either_many (map claim_of cs.items) (mapped_many cs.items h)

-- the claims of a list of formulas
written_claims_from : (ns : List Name) (Fs : List formula.Formula)
    → plain.claims_from (map (written_claim ns) Fs) ≡ written_claims ns (formula.formulas_from Fs)
written_claims_from ns [] = refl
written_claims_from ns (F ∷ Fs) = ap (plain.more (written_claim ns F)) (written_claims_from ns Fs)

pub written-And : (ns : List Name) (F : made.Formula) (Fs : Vec made.Formula Global) (xs : List made.Formula) (cs : List plain.Claim) (c : plain.Claim)
    → F ≡ made.TheVariants.And Fs → xs ≡ Fs.items → cs ≡ map (written_claim ns) (map formula_of xs) → c ≡ both_of (plain.claims_from cs)
    → c ≡ written_claim ns (formula_of F)
written-And ns F Fs xs cs c is same all both =
    both
    ∙ ap (λ (ds : List plain.Claim). both_of (plain.claims_from ds)) (all ∙ ap (λ (ys : List made.Formula). map (written_claim ns) (map formula_of ys)) same)
    ∙ ap both_of (written_claims_from ns (map formula_of Fs.items))
    ∙ ap (written_claim ns) (sym (ap formula_of is ∙ formula_of-And Fs))

pub written-Or : (ns : List Name) (F : made.Formula) (Fs : Vec made.Formula Global) (xs : List made.Formula) (cs : List plain.Claim) (c : plain.Claim)
    → F ≡ made.TheVariants.Or Fs → xs ≡ Fs.items → cs ≡ map (written_claim ns) (map formula_of xs) → c ≡ either_of (plain.claims_from cs)
    → c ≡ written_claim ns (formula_of F)
written-Or ns F Fs xs cs c is same all either =
    either
    ∙ ap (λ (ds : List plain.Claim). either_of (plain.claims_from ds)) (all ∙ ap (λ (ys : List made.Formula). map (written_claim ns) (map formula_of ys))
    same)
    ∙ ap either_of (written_claims_from ns (map formula_of Fs.items))
    ∙ ap (written_claim ns) (sym (ap formula_of is ∙ formula_of-Or Fs))

-- past the last name or exponent there is no factor
no_factors : (ns : List Name) (e : List ℕ) → min (length ns) (length e) ≡ 0 → factors_of ns e ≡ []
no_factors [] e h = refl
no_factors (x ∷ ns) [] h = refl
no_factors (x ∷ ns) (n ∷ e) h = absurd (omega (arith, h))

pub no_factors_left : (ns : List Name) (e : List ℕ) (i : ℕ) → min (length ns) (length e) ≤ i → factors_of (drop i ns) (drop i e) ≡ []
no_factors_left ns e i h = no_factors (drop i ns) (drop i e) (omega (arith, h, length-drop i ns, length-drop i e))

-- a whole number within the bound is in lowest terms
whole_is_kept : (n : ℕ) → n ≤ bound → IsKept (whole (pos n))
whole_is_kept n h = record {
  within = record { top = h; bottom = omega arith };
  reduced = λ d first second. eq-one_of_dvd-one second;
}

pub whole_found : (n : ℕ) (m : ℤ) (q : Fraction) → n ≤ bound → m ≡ pos n → IsQuotient m (pos 1) q → IsKept q → q ≡ whole (pos n)
whole_found n m q h is quotient kept =
    same_parts q (whole (pos n)) kept (whole_is_kept n h) (quotient.equal ∙ ap (λ z. z *ℤ pos (den q)) is)

pub whole_is_not_wide : (n : ℕ) (m : ℤ) → n ≤ bound → m ≡ pos n → ¬ IsWideQuotient m (pos 1)
whole_is_not_wide n m h is wide =
    wide (whole (pos n)) (whole_is_kept n h).within
    (record { divides = λ e. absurd (omega (arith, ints, e)); equal = ap (λ z. z *ℤ pos 1) (sym is) })

-- the claim has the truth of the formula
pub answers_written : (ns : List Name) (names : List Name) (F : formula.Formula) (result : Result Claim NoMemory) → names ≡ ns
    → formula.EachAtom (IsNamed ns) F → IfOk result (λ c. claim_of c ≡ written_claim names F)
    → IfOk result (λ c. (p : Point) → truth_of (claim_of c) p ≡ formula.truth_at F (values_of ns p))
answers_written ns names F (Ok c) same named h =
    λ p. ap (λ d. truth_of d p) (h ∙ ap (λ ms. written_claim ms F) same) ∙ written_truth ns F p named
answers_written ns names F (Err e) same named h = tt
