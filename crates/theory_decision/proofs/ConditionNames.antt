-- A known condition on names holds these names alone.
use Rattle.std.proofs.Common.{◌≡◌, ◌⊎◌, ℕ, zero, suc, ◌<◌, ◌-◌, length, Bool, true, false, List, [], ◌∷◌, ◌++◌, get_or, refl, sym, ap, ◌∙◌, subst, arith, inl, inr}
use Rattle.std.specs.Prelude.{◌==◌, ◌||◌, nat_lt, int_lt, pos, unsigned_abs, map, if◌then◌else◌}
use Rattle.std.specs.Str.{bytes_eq}
use Rattle.std.proofs.lemmas.Bool.{cases_Bool}
use Rattle.std.proofs.lemmas.Slice.Eq.{bytes_eq-Decides}
use Rattle.theory_meaning.specs.declared.words.Kind.{Kind}
use Rattle.theory_meaning.specs.Fraction.{whole}
use Rattle.theory_meaning.specs.Point.{Name}
use Rattle.theory_meaning.specs.Region.{known}
use Rattle.theory_meaning.specs.Tree.{Expr, number, symbol, sum, difference, opposite, power, product, Claim, Claims}
use Rattle.theory_meaning.specs.Tree as claim
use Rattle.theory_polynomial.specs.Polynomial.{Monomial, IsFreeOf}
use Rattle.theory_formula.specs.Formula.{Formula, Formulas, always, never, atom, conjunction, disjunction, none, more, formulas_from, negated, EachAtom, EachAtomOfAll}
use Rattle.theory_lowering.specs.Lowered.{place_of, IsLowered}
use Rattle.theory_lowering.specs.LoweringLimits.{IsListedExpr, IsListedClaim, AreListedClaims}
use Rattle.theory_lowering.specs.WrittenClaim.{small_power, power_factors, factors_of, product_from, multiple_of, term_of, sum_from, polynomial_of, both_of, either_of, written_claim, written_claims}
use Rattle.theory_lowering.proofs.LoweredAtoms.{lowered_proper}
use Rattle.theory_signed.specs.ByKind.{simplified_for}
use Rattle.theory_decision.specs.Choice.{is_one_of}
use Rattle.theory_decision.specs.Outcomes.{Leaves, all_of, true_everywhere, failed_before, AreLeaves}
use Rattle.theory_decision.specs.Answers.{condition_of, Lowering, refused, lowered, IsLowering, region_by, IsRegionOf, IsWrittenRegion}
use Rattle.theory_decision.proofs.LeafFacts.{condition_free}
use Rattle.theory_decision.proofs.AtomFacts.{negated_each}

module _ (chosen : List Name) where
  -- the name is a chosen one
  abbrev IsChosen : Name → Type 0
  IsChosen x = place_of x chosen < length chosen

  abbrev EachListed : List Expr → Type 0
  EachListed [] = Unit {0}
  EachListed (u ∷ us) = IsListedExpr chosen u × EachListed us

  listed_append : (us vs : List Expr) → EachListed us → EachListed vs → EachListed (us ++ vs)
  listed_append [] vs h k = k
  listed_append (u ∷ us) vs h k = (h.0, listed_append us vs h.1 k)

  -- powers of chosen names
  small_listed : (x : Name) (n : ℕ) → (n ≡ 0) ⊎ IsChosen x → EachListed (small_power x n)
  small_listed x zero h = tt
  small_listed x (suc n) (inl e) = absurd (omega (arith, e))
  small_listed x (suc zero) (inr h) = (h, tt)
  small_listed x (suc (suc n)) (inr h) = (h, tt)

  chosen_above : (x : Name) (n : ℕ) → nat_lt 8 n ≡ true → (n ≡ 0) ⊎ IsChosen x → IsChosen x
  chosen_above x n l (inl e) = absurd (grind (arith, l, e))
  chosen_above x n l (inr h) = h

  power_listed : (x : Name) (n : ℕ) → (n ≡ 0) ⊎ IsChosen x → EachListed (power_factors x n)
  power_listed x n h =
      elim (nat_lt 8 n) as (λ b. nat_lt 8 n ≡ b → EachListed (if b then power (symbol x) 8 ∷ small_power x (n - 8) else small_power x n)) [
        | true ↦ λ l. (chosen_above x n l h, small_listed x (n - 8) (inr (chosen_above x n l h)))
        | false ↦ λ l. small_listed x n h
      ] refl

  -- each name whose exponent isn't 0 is a chosen one
  abbrev Fits : List Name → List ℕ → Type 0
  Fits [] e = Unit {0}
  Fits (x ∷ ns) [] = Unit {0}
  Fits (x ∷ ns) (n ∷ e) = ((n ≡ 0) ⊎ IsChosen x) × Fits ns e

  fits_from : (ns : List Name) (e : List ℕ) → ((i : ℕ) → i < length ns → (get_or e i 0 ≡ 0) ⊎ IsChosen (get_or ns i [])) → Fits ns e
  fits_from [] e h = tt
  fits_from (x ∷ ns) [] h = tt
  fits_from (x ∷ ns) (n ∷ e) h = (h zero (omega arith), fits_from ns e (λ i l. h (suc i) (omega (arith, l))))

  factors_listed : (ns : List Name) (e : List ℕ) → Fits ns e → EachListed (factors_of ns e)
  factors_listed [] e h = tt
  factors_listed (x ∷ ns) [] h = tt
  factors_listed (x ∷ ns) (n ∷ e) h = listed_append (power_factors x n) (factors_of ns e) (power_listed x n h.0) (factors_listed ns e h.1)

  -- products, sums and comparisons of what is listed
  product_listed : (u : Expr) (us : List Expr) → IsListedExpr chosen u → EachListed us → IsListedExpr chosen (product_from u us)
  product_listed u [] h k = h
  product_listed u (v ∷ us) h k = product_listed (product u v) us (h, k.0) k.1

  multiple_listed : (n : ℕ) (us : List Expr) → EachListed us → IsListedExpr chosen (multiple_of n us)
  multiple_listed n [] h = tt
  multiple_listed n (u ∷ us) h =
      elim (n == 1) as (λ b. IsListedExpr chosen (if b then product_from u us else product_from (number (whole (pos n))) (u ∷ us))) [
        | true ↦ product_listed u us h.0 h.1
        | false ↦ product_listed (number (whole (pos n))) (u ∷ us) tt h
      ]

  abbrev EachFits : List Name → List Monomial → Type 0
  EachFits ns [] = Unit {0}
  EachFits ns (t ∷ ts) = Fits ns t.powers × EachFits ns ts

  module _ (ns : List Name) where
    term_listed : (t : Monomial) → Fits ns t.powers → IsListedExpr chosen (term_of ns t)
    term_listed t h = multiple_listed (unsigned_abs t.coefficient) (factors_of ns t.powers) (factors_listed ns t.powers h)

    sum_listed : (u : Expr) (ts : List Monomial) → IsListedExpr chosen u → EachFits ns ts → IsListedExpr chosen (sum_from ns u ts)
    sum_listed u [] h k = h
    sum_listed u (t ∷ ts) h k =
        sum_listed (if int_lt t.coefficient (pos 0) then difference u (term_of ns t) else sum u (term_of ns t)) ts
        (elim (int_lt t.coefficient (pos 0)) as (λ b. IsListedExpr chosen (if b then difference u (term_of ns t) else sum u (term_of ns t))) [
          | true ↦ (h, term_listed t k.0)
          | false ↦ (h, term_listed t k.0)
        ]) k.1

    polynomial_listed : (P : List Monomial) → EachFits ns P → IsListedExpr chosen (polynomial_of ns P)
    polynomial_listed [] h = tt
    polynomial_listed (t ∷ ts) h =
        sum_listed (if int_lt t.coefficient (pos 0) then opposite (term_of ns t) else term_of ns t) ts
        (elim (int_lt t.coefficient (pos 0)) as (λ b. IsListedExpr chosen (if b then opposite (term_of ns t) else term_of ns t)) [
          | true ↦ term_listed t h.0
          | false ↦ term_listed t h.0
        ]) h.1

    both_listed : (cs : Claims) → AreListedClaims chosen cs → IsListedClaim chosen (both_of cs)
    both_listed claim.none h = tt
    both_listed (claim.more c claim.none) h = h.0
    both_listed (claim.more c (claim.more d cs)) h = h

    either_listed : (cs : Claims) → AreListedClaims chosen cs → IsListedClaim chosen (either_of cs)
    either_listed claim.none h = tt
    either_listed (claim.more c claim.none) h = h.0
    either_listed (claim.more c (claim.more d cs)) h = h

    mutual
      claim_listed : (F : Formula) → EachAtom (λ P S. EachFits ns P) F → IsListedClaim chosen (written_claim ns F)
      claim_listed always h = tt
      claim_listed never h = tt
      claim_listed (atom P S) h = (polynomial_listed P h, tt)
      claim_listed (conjunction Fs) h = both_listed (written_claims ns Fs) (claims_listed Fs h)
      claim_listed (disjunction Fs) h = either_listed (written_claims ns Fs) (claims_listed Fs h)

      claims_listed : (Fs : Formulas) → EachAtomOfAll (λ P S. EachFits ns P) Fs → AreListedClaims chosen (written_claims ns Fs)
      claims_listed none h = tt
      claims_listed (more F Fs) h = (claim_listed F h.0, claims_listed Fs h.1)

-- a place of a chosen name is that name's
pub name_at : (x : Name) (ns : List Name) → place_of x ns < length ns → get_or ns (place_of x ns) [] ≡ x
name_at x [] h = absurd (omega (arith, h))
name_at x (y ∷ ns) h =
    elim (bytes_eq y x) as (λ b. bytes_eq y x ≡ b → (if b then zero else suc (place_of x ns)) < suc (length ns)
    → get_or (y ∷ ns) (if b then zero else suc (place_of x ns)) [] ≡ x) [
      | true ↦ λ e l. (bytes_eq-Decides y x).0 e
      | false ↦ λ e l. name_at x ns (omega (arith, l))
    ] refl (omega (arith, h))

pub own_place : (x : Name) (on : List Name) → place_of x (x ∷ on) < suc (length on)
own_place x on =
    let same : bytes_eq x x ≡ true = (bytes_eq-Decides x x).1 refl in
    subst (λ (b : Bool). (if b then zero else suc (place_of x on)) < suc (length on)) (sym same) (omega arith)

pub later_place : (x y : Name) (on : List Name) → place_of x on < length on → place_of x (y ∷ on) < suc (length on)
later_place x y on h =
    elim (bytes_eq y x) as (λ b. (if b then zero else suc (place_of x on)) < suc (length on)) [
      | true ↦ omega arith
      | false ↦ omega (arith, h)
    ]

chosen_at : (ns on : List Name) (i : ℕ) → i < length ns → is_one_of (map (λ n. place_of n ns) on) i ≡ true
    → place_of (get_or ns i []) on < length on
chosen_at ns [] i l e = absurd cc
chosen_at ns (x ∷ on) i l e =
    elim (cases_Bool (place_of x ns == i)) [
      | inl own ↦
          let same : place_of x ns ≡ i = grind (arith, own) in
          let is_x : get_or ns i [] ≡ x = subst (λ (k : ℕ). k < length ns → get_or ns k [] ≡ x) same (name_at x ns) l in
          subst (λ (y : Name). place_of y (x ∷ on) < suc (length on)) (sym is_x) (own_place x on)
      | inr other ↦
          later_place (get_or ns i []) x on
          (chosen_at ns on i l (sym (ap (λ (b : Bool). b || is_one_of (map (λ n. place_of n ns) on) i) other) ∙ e))
    ]

-- so a formula that is free of the symbols that aren't kept is written over chosen names
module _ (ns on : List Name) where
  abbrev IsFreeBesides : List Monomial → Type 0
  IsFreeBesides P = (i : ℕ) → is_one_of (map (λ n. place_of n ns) on) i ≡ false → IsFreeOf i P

  terms_fit : (P : List Monomial) → IsFreeBesides P → EachFits on ns P
  terms_fit [] h = tt
  terms_fit (t ∷ ts) h = (
    fits_from on ns t.powers (λ i l. elim (cases_Bool (is_one_of (map (λ n. place_of n ns) on) i)) [
      | inl kept ↦ inr (chosen_at ns on i l kept)
      | inr free ↦ let e = h i free in inl (omega (arith, e))
    ]),
    terms_fit ts (λ i free. let e = h i free in omega (arith, e)),
  )

  mutual
    formula_fits : (F : Formula) → ((i : ℕ) → is_one_of (map (λ n. place_of n ns) on) i ≡ false → EachAtom (λ P S. IsFreeOf i P) F)
        → EachAtom (λ P S. EachFits on ns P) F
    formula_fits always h = tt
    formula_fits never h = tt
    formula_fits (atom P S) h = terms_fit P h
    formula_fits (conjunction Fs) h = formulas_fit Fs h
    formula_fits (disjunction Fs) h = formulas_fit Fs h

    formulas_fit : (Fs : Formulas) → ((i : ℕ) → is_one_of (map (λ n. place_of n ns) on) i ≡ false → EachAtomOfAll (λ P S. IsFreeOf i P) Fs)
        → EachAtomOfAll (λ P S. EachFits on ns P) Fs
    formulas_fit none h = tt
    formulas_fit (more F Fs) h = (formula_fits F (λ i n. (h i n).0), formulas_fit Fs (λ i n. (h i n).1))

  module _ (kind : Kind) (cs : List Claim) where
    condition_listed : (F : Formula) (leaves : List Formula) → IsLowered ns cs F
        → AreLeaves (map (λ n. place_of n ns) on) kind F (all_of leaves) → IsListedClaim on (condition_of kind ns leaves)
    condition_listed F leaves w l =
        let S = simplified_for kind (disjunction (formulas_from leaves)) in
        claim_listed on ns (negated S) (formula_fits (negated S) (λ i n.
        negated_each (IsFreeOf i) S (condition_free (map (λ n. place_of n ns) on) kind F leaves i (lowered_proper ns cs F w) l n)))

    by_leaves : (F : Formula) (l : Leaves) (C : Claim) → IsLowered ns cs F → AreLeaves (map (λ n. place_of n ns) on) kind F l
        → known C ≡ region_by kind ns l → IsListedClaim on C
    by_leaves F (all_of leaves) C w l e =
        let same : C ≡ condition_of kind ns leaves = cc in subst (IsListedClaim on) (sym same) (condition_listed F leaves w l)
    by_leaves F true_everywhere C w l e = let same : C ≡ claim.never = cc in subst (IsListedClaim on) (sym same) tt
    by_leaves F (failed_before f) C w l e = absurd cc

    by_lowering : (C : Claim) (l : Lowering) → IsLowering ns cs l → IsRegionOf kind ns on l (known C) → IsListedClaim on C
    by_lowering C (refused c) k b = absurd cc
    by_lowering C (lowered F) k b = by_leaves F b.0 C k.2 b.1 b.2

    pub region_listed : (C : Claim) → IsWrittenRegion kind ns cs on (known C) → IsListedClaim on C
    region_listed C w = by_lowering C w.0 w.1 w.2
