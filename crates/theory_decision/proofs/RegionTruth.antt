-- A known condition on names is true exactly where no point with their values meets the claims, and holds these names alone.
use Rattle.std.proofs.Common.{◌≡◌, ℕ, ◌≤◌, length, Bool, true, false, not, List, [], ◌∷◌, refl, sym, ap, ap₂, ◌∙◌, subst, arith, inl, inr}
use Rattle.std.specs.Prelude.{◌==◌, ◌||◌, map, IsTrue}
use Rattle.std.proofs.lemmas.Bool.{cases_Bool}
use Rattle.theory_meaning.specs.Fraction.{Fraction, IsSame}
use Rattle.theory_meaning.specs.Point.{Name, Point, value_at, AreDistinct}
use Rattle.theory_meaning.specs.Region.{Region, known, unknown, AreAmong, HoldsOnly, IsRightFor, IsRightRegion}
use Rattle.theory_meaning.specs.Region.{AgreeOn as AgreeOnNames}
use Rattle.theory_meaning.specs.Tree.{Claim, never}
use Rattle.theory_meaning.specs.Truth.{truth_of, Meets}
use Rattle.theory_polynomial.specs.Polynomial.{IsFreeOf}
use Rattle.theory_polynomial.specs.PolynomialValue.{Values, symbol_at}
use Rattle.theory_formula.specs.Formula.{Formula, disjunction, truth_at, EachAtom, formulas_from, negated}
use Rattle.theory_lowering.specs.Lowered.{place_of, values_of, IsLowered}
use Rattle.theory_lowering.specs.LoweringLimits.{AreListed}
use Rattle.theory_formula.specs.Symbols.{IsNamed}
use Rattle.theory_lowering.proofs.LoweredLaws.{lowered_truth}
use Rattle.theory_lowering.proofs.WrittenLaws.{written_truth}
use Rattle.theory_formula.proofs.FormulaLaws.{negation_turns}
use Rattle.theory_signed.specs.ByKind.{simplified_for}
use Rattle.theory_lowering.proofs.QuotientValues.{symbol_at_place}
use Rattle.theory_meaning.specs.declared.words.Kind.{Kind}
use Rattle.theory_decision.specs.Choice.{Symbols, is_one_of}
use Rattle.theory_decision.specs.Outcomes.{Leaves, all_of, true_everywhere, failed_before, AreLeaves}
use Rattle.theory_decision.specs.Regions.{AgreeOn, IsTrueFor}
use Rattle.theory_decision.specs.Answers.{named, condition_of, Lowering, refused, lowered, IsLowering, region_by, IsRegionOf, IsWrittenRegion}
use Rattle.theory_lowering.proofs.LoweredAtoms.{lowered_proper}
use Rattle.theory_decision.proofs.OutcomeTruth.{leaves_are_right, everywhere_is_right}
use Rattle.theory_decision.proofs.NamedPoints.{named_symbol}
use Rattle.theory_decision.proofs.HalfTruth.{meets_named}
use Rattle.theory_decision.proofs.LeafFacts.{condition_proper, condition_free}
use Rattle.theory_decision.proofs.AtomFacts.{negated_each}
use Rattle.theory_decision.proofs.ChosenNames.{AreListedNames, AgreeAt, places_of_names, agree_at, agree_on, claim_among}
use Rattle.theory_decision.proofs.ConditionNames.{region_listed}
use Rattle.theory_decision.proofs.Nodes.{in_simplified}
use Rattle.theory_decision.proofs.AtomFacts.{each_is_over}

not_true : (a : Bool) → not a ≡ true → a ≡ true → ⊥
not_true true e f = cc
not_true false e f = cc

is_false : (a : Bool) → (a ≡ true → ⊥) → not a ≡ true
is_false true n = absurd (n refl)
is_false false n = refl

module _ (kind : Kind) (ns : List Name) (cs : List Claim) (on_names : List Name) (few : length ns ≤ 32) (listed : AreListed ns cs)
    (distinct : AreDistinct ns)
    (among : AreAmong on_names ns) where
  chosen : AreListedNames ns on_names
  chosen = places_of_names ns on_names among

  abbrev places : List Name → Symbols
  places on = map (λ n. place_of n ns) on

  not_a_place : (on : List Name) (y : ℕ) → AreListedNames ns on → length ns ≤ y → is_one_of (places on) y ≡ false
  not_a_place [] y h l = refl
  not_a_place (n ∷ on) y h l =
      let a = h.0 in
      let apart : place_of n ns == y ≡ false = elim (cases_Bool (place_of n ns == y)) [
        | inl e ↦ let same : place_of n ns ≡ y = grind (arith, e) in absurd (omega (arith, a, l, same))
        | inr e ↦ e
      ] in
      ap₂ ◌||◌ apart (not_a_place on y h.1 l)

  same_along : (a b c d : Fraction) → a ≡ b → c ≡ d → IsSame b d → IsSame a c
  same_along a b c d e f h = subst (λ (z : Fraction). IsSame z c) (sym e) (subst (λ (z : Fraction). IsSame b z) (sym f) h)

  -- names and symbols
  symbols_agree : (on : List Name) (p q : Point) → AreListedNames ns on → AgreeAt on p q → AgreeOn (places on) (values_of ns p) (values_of ns q)
  symbols_agree [] p q l h y k = absurd cc
  symbols_agree (n ∷ on) p q l h y k =
      elim (place_of n ns == y) as (λ b. place_of n ns == y ≡ b → IsTrue (b || is_one_of (places on) y)
      → IsSame (symbol_at y (values_of ns p)) (symbol_at y (values_of ns q))) [
        | true ↦ λ e k'.
            let same : place_of n ns ≡ y = grind (arith, e) in
            subst (λ (z : ℕ). IsSame (symbol_at z (values_of ns p)) (symbol_at z (values_of ns q))) same
            (same_along (symbol_at (place_of n ns) (values_of ns p)) (value_at p n) (symbol_at (place_of n ns) (values_of ns q)) (value_at q n)
            (symbol_at_place n ns p l.0) (symbol_at_place n ns q l.0) h.0)
        | false ↦ λ e k'. symbols_agree on p q l.1 h.1 y k'
      ] refl k

  own_place : (y : ℕ) (ys : Symbols) → is_one_of (y ∷ ys) y ≡ true
  own_place y ys = let e : y == y ≡ true = grind arith in ap (λ (b : Bool). b || is_one_of ys y) e

  or_true : (a b : Bool) → b ≡ true → a || b ≡ true
  or_true true b e = refl
  or_true false b e = e

  names_agree : (on : List Name) (p : Point) (q : Values) → AreListedNames ns on → AgreeOn (places on) (values_of ns p) q → AgreeAt on p (named ns q)
  names_agree [] p q l h = tt
  names_agree (n ∷ on) p q l h = (
    same_along (value_at p n) (symbol_at (place_of n ns) (values_of ns p)) (value_at (named ns q) n) (symbol_at (place_of n ns) q)
        (sym (symbol_at_place n ns p l.0)) (sym (symbol_at_place n ns (named ns q) l.0) ∙ named_symbol ns q (place_of n ns) distinct l.0)
        (h (place_of n ns) (own_place (place_of n ns) (places on))),
    names_agree on p q l.1 (λ y k. h y (or_true (place_of n ns == y) (is_one_of (places on) y) k)),
  )

  -- some point with these values meets the claims
  abbrev IsMetWith : Point → Type 0
  IsMetWith p = (q : Point) × AgreeOnNames on_names p q × Meets cs q

  met_for : (F : Formula) (p : Point) → IsLowered ns cs F → IsMetWith p → IsTrueFor (places on_names) (values_of ns p) F
  met_for F p w m = (values_of ns m.0, symbols_agree on_names p m.0 chosen (agree_at on_names p m.0 m.1), lowered_truth ns cs F m.0 few listed w ∙ m.2)

  for_met : (F : Formula) (p : Point) → IsLowered ns cs F → IsTrueFor (places on_names) (values_of ns p) F → IsMetWith p
  for_met F p w t = (
    named ns t.0,
    agree_on on_names p (named ns t.0) (names_agree on_names p t.0 chosen t.1),
    meets_named kind ns cs few listed distinct F t.0 w t.2,
  )

  pub condition_named : (F : Formula) (leaves : List Formula) → IsLowered ns cs F → AreLeaves (places on_names) kind F (all_of leaves)
      → EachAtom (IsNamed ns) (negated (simplified_for kind (disjunction (formulas_from leaves))))
  condition_named F leaves w l =
      let S = simplified_for kind (disjunction (formulas_from leaves)) in
      each_is_over (length ns) (negated S)
      (λ y h. negated_each (IsFreeOf y) S
      (condition_free (places on_names) kind F leaves y (lowered_proper ns cs F w) l (not_a_place on_names y chosen h)))

  condition_truth : (F : Formula) (leaves : List Formula) (p : Point) → IsLowered ns cs F → AreLeaves (places on_names) kind F (all_of leaves)
      → truth_of (condition_of kind ns leaves) p ≡ not (truth_at (disjunction (formulas_from leaves)) (values_of ns p))
  condition_truth F leaves p w l =
      let G = disjunction (formulas_from leaves) in
      let proper = condition_proper (places on_names) kind F leaves (lowered_proper ns cs F w) l in
      written_truth ns (negated (simplified_for kind G)) p (condition_named F leaves w l)
      ∙ negation_turns (simplified_for kind G) (values_of ns p) ∙ ap not (sym (in_simplified kind G (values_of ns p) proper))

  -- the condition is true exactly where no point with these values meets the claims
  leaves_right : (F : Formula) (leaves : List Formula) → IsLowered ns cs F → AreLeaves (places on_names) kind F (all_of leaves)
      → IsRightFor cs on_names (condition_of kind ns leaves)
  leaves_right F leaves w l p =
      let right = leaves_are_right (places on_names) kind F leaves (lowered_proper ns cs F w) l (values_of ns p) in
      let truth = condition_truth F leaves p w l in (
        λ t q a m. not_true (truth_at (disjunction (formulas_from leaves)) (values_of ns p)) (sym truth ∙ t) (right.1 (met_for F p w (q, a, m))),
        λ n. truth ∙ is_false (truth_at (disjunction (formulas_from leaves)) (values_of ns p)) (λ t. let m = for_met F p w (right.0 t) in n m.0 m.1 m.2),
      )

  everywhere_right : (F : Formula) → IsLowered ns cs F → AreLeaves (places on_names) kind F true_everywhere → IsRightFor cs on_names never
  everywhere_right F w l p =
      let m = for_met F p w (everywhere_is_right (places on_names) kind F (lowered_proper ns cs F w) l (values_of ns p)) in (
        λ t. absurd cc,
        λ n. absurd (n m.0 m.1 m.2),
      )

  by_leaves : (F : Formula) (l : Leaves) (C : Claim) → IsLowered ns cs F → AreLeaves (places on_names) kind F l → known C ≡ region_by kind ns l
      → IsRightFor cs on_names C
  by_leaves F (all_of leaves) C w l e =
      let same : C ≡ condition_of kind ns leaves = cc in subst (IsRightFor cs on_names) (sym same) (leaves_right F leaves w l)
  by_leaves F true_everywhere C w l e = let same : C ≡ never = cc in subst (IsRightFor cs on_names) (sym same) (everywhere_right F w l)
  by_leaves F (failed_before f) C w l e = absurd cc

  by_lowering : (C : Claim) (l : Lowering) → IsLowering ns cs l → IsRegionOf kind ns on_names l (known C) → IsRightFor cs on_names C
  by_lowering C (refused c) k b = absurd cc
  by_lowering C (lowered F) k b = by_leaves F b.0 C k.2 b.1 b.2

  pub known_is_right : (C : Claim) → IsWrittenRegion kind ns cs on_names (known C) → IsRightFor cs on_names C
  known_is_right C w = by_lowering C w.0 w.1 w.2

-- and it holds these names alone
pub known_holds_names : (kind : Kind) (ns : List Name) (cs : List Claim) (on_names : List Name) (C : Claim)
    → IsWrittenRegion kind ns cs on_names (known C) → HoldsOnly on_names C
known_holds_names kind ns cs on_names C w = claim_among on_names C (region_listed ns on_names kind cs C w)

pub written_region_is_right : (kind : Kind) (ns : List Name) (cs : List Claim) (on_names : List Name) (r : Region) → length ns ≤ 32 → AreListed ns cs
    → AreDistinct ns → AreAmong on_names ns → IsWrittenRegion kind ns cs on_names r → IsRightRegion cs on_names r
written_region_is_right kind ns cs on_names (known C) few listed distinct among w =
    (known_holds_names kind ns cs on_names C w, known_is_right kind ns cs on_names few listed distinct among C w)
written_region_is_right kind ns cs on_names (unknown cause) few listed distinct among w = tt
