-- A formula restricted to values of symbols stays linear in another one, and its atoms stay canonical.
use Rattle.std.proofs.Common.{◌≡◌, ℕ, zero, suc, ◌<◌, ◌≤◌, ◌-◌, ◌^◌, ℤ, pos, neg_ℤ, ◌*ℤ◌, Bool, true, false, List, [], ◌∷◌, ◌++◌, get_or, set, refl, sym, ap, ◌∙◌, subst, arith, inl, inr}
use Rattle.std.specs.Prelude.{if◌then◌else◌, ◌==◌, nat_lt, filter, map, cond}
use Rattle.std.specs.Str.{bytes_eq}
use Rattle.std.proofs.lemmas.Bool.{cases_Bool}
use Rattle.std.proofs.lemmas.Int.{ints}
use Rattle.std.proofs.lemmas.Slice.Eq.{bytes_eq-Decides}
use Rattle.theory_meaning.specs.Fraction.{Fraction, den}
use Rattle.theory_meaning.proofs.WholeLaws.{neg-times}
use Rattle.theory_formula.specs.declared.signs.Signs.{Signs}
use Rattle.theory_polynomial.specs.Polynomial.{Monomial, monomial, coefficient_at, IsPolynomial, IsPrimitiveOf, IsCanonicalOf, exponent_of, degree_in, IsLinearIn, scaled}
use Rattle.theory_polynomial.specs.PolynomialValue.{part_of, restriction_step, IsRestriction}
use Rattle.theory_formula.specs.Formula.{Formula, Formulas, always, never, atom, conjunction, disjunction, none, more, EachAtomOfAll}
use Rattle.theory_formula.specs.SignCondition.{IsAtomOf, decided}
use Rattle.theory_formula.proofs.ConditionLaws.{canonical_has_symbol}
use Rattle.theory_polynomial.proofs.CoefficientLaws.{coefficient_at-scaled, times_zero}
use Rattle.theory_polynomial.proofs.FixedOrder.{coefficient_first, coefficient_before}
use Rattle.theory_polynomial.proofs.PrimitiveLaws.{without_factor}
use Rattle.theory_elimination.specs.Elimination.{IsLinearAtom, IsLinear}
use Rattle.theory_decision.specs.Witness.{IsAtValues, IsFormulaAtValues, AreFormulasAtValues}
use Rattle.theory_decision.proofs.AtValues.{at_values_polynomial}

module _ (x : ℕ) where
  -- no term has the symbol with an exponent above 1
  abbrev AtMostOne : List Monomial → Type 0
  AtMostOne [] = Unit {0}
  AtMostOne (t ∷ ts) = (get_or t.powers x 0 ≤ 1) × AtMostOne ts

  linear_terms : (P : List Monomial) → IsLinearIn x P → AtMostOne P
  linear_terms [] h = tt
  linear_terms (t ∷ ts) h = (omega (arith, h), linear_terms ts (omega (arith, h)))

  one_append : (ts us : List Monomial) → AtMostOne ts → AtMostOne us → AtMostOne (ts ++ us)
  one_append [] us h k = k
  one_append (t ∷ ts) us h k = (h.0, one_append ts us h.1 k)

  one_scaled : (n : ℤ) (ts : List Monomial) → AtMostOne ts → AtMostOne (scaled n ts)
  one_scaled n [] h = tt
  one_scaled n (t ∷ ts) h = (h.0, one_scaled n ts h.1)

  set_one : (e : List ℕ) (z y : ℕ) → get_or e y 0 ≤ 1 → get_or (set e z 0) y 0 ≤ 1
  set_one [] z y h = h
  set_one (n ∷ e) zero zero h = omega arith
  set_one (n ∷ e) zero (suc y) h = h
  set_one (n ∷ e) (suc z) zero h = h
  set_one (n ∷ e) (suc z) (suc y) h = set_one e z y h

  part_step : (z k : ℕ) (t : Monomial) (ts : List Monomial) (b : Bool) → get_or t.powers x 0 ≤ 1 → AtMostOne (part_of z k ts)
      → AtMostOne (map (λ t. monomial t.coefficient (set t.powers z 0))
      (cond b (t ∷ filter (λ t. exponent_of z t == k) ts) (filter (λ t. exponent_of z t == k) ts)))
  part_step z k t ts true h l = (set_one t.powers z x h, l)
  part_step z k t ts false h l = l

  one_part : (z k : ℕ) (P : List Monomial) → AtMostOne P → AtMostOne (part_of z k P)
  one_part z k [] h = tt
  one_part z k (t ∷ ts) h = part_step z k t ts (exponent_of z t == k) h.0 (one_part z k ts h.1)

  one_step : (z : ℕ) (c : Fraction) (P : List Monomial) (i : ℕ) → AtMostOne P → AtMostOne (restriction_step z c P i)
  one_step z c P zero h = one_part z (degree_in z P) P h
  one_step z c P (suc i) h =
      one_append (scaled c.num (restriction_step z c P i)) (scaled (pos (den c ^ suc i)) (part_of z (degree_in z P - suc i) P))
      (one_scaled c.num (restriction_step z c P i) (one_step z c P i h))
      (one_scaled (pos (den c ^ suc i)) (part_of z (degree_in z P - suc i) P) (one_part z (degree_in z P - suc i) P h))

  -- so no coefficient stands at a greater exponent
  record IsFlat (ts : List Monomial) : Type 0 where
    none_above : (e : List ℕ) → 1 < get_or e x 0 → coefficient_at ts e ≡ pos 0

  too_great : (m n : ℕ) → m ≤ 1 → 1 < n → n ≡ m → ⊥
  too_great m n h k e = omega (arith, h, k, e)

  term_apart : (t : Monomial) (e : List ℕ) → get_or t.powers x 0 ≤ 1 → 1 < get_or e x 0 → bytes_eq t.powers e ≡ false
  term_apart t e h k =
      elim (cases_Bool (bytes_eq t.powers e)) [
        | inl same ↦
            let alike : get_or e x 0 ≡ get_or t.powers x 0 = ap (λ (f : List ℕ). get_or f x 0) (sym ((bytes_eq-Decides t.powers e).0 same)) in
            absurd (too_great (get_or t.powers x 0) (get_or e x 0) h k alike)
        | inr apart ↦ apart
      ]

  no_coefficient : (ts : List Monomial) (e : List ℕ) → AtMostOne ts → 1 < get_or e x 0 → coefficient_at ts e ≡ pos 0
  no_coefficient [] e h k = refl
  no_coefficient (t ∷ ts) e h k =
      let nothing : (if bytes_eq t.powers e then t.coefficient else pos 0) ≡ pos 0 = ap (λ (b : Bool). if b then t.coefficient else pos 0)
      (term_apart t e h.0 k) in
      let rest = no_coefficient ts e h.1 k in
      omega (arith, ints, nothing, rest)

  divided_flat : (g : ℕ) (r : List Monomial) → 0 < g → IsFlat (scaled (pos g) r) → IsFlat r
  divided_flat g r h k = record {
    none_above = λ e l.
        without_factor g (coefficient_at r e) (pos 0) h (sym (coefficient_at-scaled (pos g) r e) ∙ k.none_above e l ∙ sym (times_zero (pos g)));
  }

  primitive_flat : (ts r : List Monomial) → AtMostOne ts → IsPrimitiveOf ts r → IsFlat r
  primitive_flat ts r h w = divided_flat w.0 r w.1.positive (record { none_above = λ e l. w.3.at e ∙ no_coefficient ts e h l })

  unturned : (z : ℤ) → neg_ℤ z ≡ pos 0 → z ≡ pos 0
  unturned z h = omega (arith, ints, h)

  canonical_flat : (P r : List Monomial) (b : Bool) → AtMostOne P → IsCanonicalOf P b r → IsFlat r
  canonical_flat P r false h w =
      divided_flat w.content r w.is_content.positive (record { none_above = λ e l. sym (w.same.at e) ∙ no_coefficient P e h l })
  canonical_flat P r true h w = record {
    none_above = λ e l.
        let nothing : neg_ℤ (pos w.content) *ℤ coefficient_at r e ≡ pos 0 =
        sym (coefficient_at-scaled (neg_ℤ (pos w.content)) r e) ∙ sym (w.same.at e) ∙ no_coefficient P e h l in
        without_factor w.content (coefficient_at r e) (pos 0) w.is_content.positive
        (unturned (pos w.content *ℤ coefficient_at r e) (sym (neg-times (pos w.content) (coefficient_at r e)) ∙ nothing)
        ∙ sym (times_zero (pos w.content)));
  }

  rest_flat : (t : Monomial) (ts : List Monomial) → IsPolynomial (t ∷ ts) → IsFlat (t ∷ ts) → IsFlat ts
  rest_flat t ts h k = record {
    none_above = λ e l.
        elim (cases_Bool (bytes_eq t.powers e)) [
          | inl same ↦
              subst (λ (f : List ℕ). coefficient_at ts f ≡ pos 0) ((bytes_eq-Decides t.powers e).0 same)
              (coefficient_before t.powers ts h.2 h.1)
          | inr apart ↦
              let nothing : (if bytes_eq t.powers e then t.coefficient else pos 0) ≡ pos 0 =
              ap (λ (b : Bool). if b then t.coefficient else pos 0) apart in
              let whole = k.none_above e l in
              omega (arith, ints, nothing, whole)
        ];
  }

  at_most : (n : ℕ) → (1 < n → ⊥) → n ≤ 1
  at_most n h = elim (cases_Bool (nat_lt 1 n)) [ inl l ↦ absurd (h (grind (arith, l))) | inr l ↦ grind (arith, l) ]

  flat_is_linear : (ts : List Monomial) → IsPolynomial ts → IsFlat ts → IsLinearIn x ts
  flat_is_linear [] h k = omega arith
  flat_is_linear (t ∷ ts) h k =
      let own : get_or t.powers x 0 ≤ 1 =
      at_most (get_or t.powers x 0) (λ l. h.0.nonzero (sym (coefficient_first t ts h) ∙ k.none_above t.powers l)) in
      let rest = flat_is_linear ts h.2 (rest_flat t ts h k) in
      omega (arith, own, rest)

  restriction_linear : (z : ℕ) (c : Fraction) (P m : List Monomial) → IsLinearIn x P → IsRestriction z c P m → IsLinearIn x m
  restriction_linear z c P m h w =
      flat_is_linear m w.2 (primitive_flat (restriction_step z c P (degree_in z P)) m (one_step z c P (degree_in z P) (linear_terms P h)) w)

  at_values_linear : (vs : List (ℕ × Fraction)) (P r : List Monomial) → IsLinearIn x P → IsAtValues vs P r → IsLinearIn x r
  at_values_linear [] P r h w = subst (IsLinearIn x) (sym w) h
  at_values_linear (a ∷ vs) P r h w = at_values_linear vs w.0 r (restriction_linear a.0 a.1 P w.0 h w.1) w.2

  decided_linear : (b : Bool) → IsLinear x (decided b)
  decided_linear true = tt
  decided_linear false = tt

  atom_linear : (P : List Monomial) (S : Signs) (F : Formula) → IsPolynomial P → IsLinearIn x P → IsAtomOf P S F → IsLinear x F
  atom_linear P S F h l (inl w) = subst (IsLinear x) (sym w.written) (decided_linear _)
  atom_linear P S F h l (inr w) =
      subst (IsLinear x) (sym w.written) (record {
        poly = record { canonical = w.canonical.canonical; symbol = canonical_has_symbol P w.poly w.turned h w.symbol w.canonical };
        linear = flat_is_linear w.poly w.canonical.canonical.ordered (canonical_flat P w.poly w.turned (linear_terms P l) w.canonical);
      })

  module _ (vs : List (ℕ × Fraction)) where
    mutual
      pub at_values_stay_linear : (F R : Formula) → IsLinear x F → IsFormulaAtValues vs F R → IsLinear x R
      at_values_stay_linear always R h w = subst (IsLinear x) (sym w) tt
      at_values_stay_linear never R h w = subst (IsLinear x) (sym w) tt
      at_values_stay_linear (atom P S) R h w =
          atom_linear w.0 S R (at_values_polynomial vs P w.0 h.poly.canonical.ordered w.1) (at_values_linear vs P w.0 h.linear w.1) w.2
      at_values_stay_linear (conjunction Fs) R h w = subst (IsLinear x) (sym w.2) (all_stay_linear Fs w.0 h w.1)
      at_values_stay_linear (disjunction Fs) R h w = subst (IsLinear x) (sym w.2) (all_stay_linear Fs w.0 h w.1)

      all_stay_linear : (Fs Rs : Formulas) → EachAtomOfAll (IsLinearAtom x) Fs → AreFormulasAtValues vs Fs Rs → EachAtomOfAll (IsLinearAtom x) Rs
      all_stay_linear none Rs h w = subst (EachAtomOfAll (IsLinearAtom x)) (sym w) tt
      all_stay_linear (more F Fs) Rs h w =
          subst (EachAtomOfAll (IsLinearAtom x)) (sym w.4) (at_values_stay_linear F w.0 h.0 w.2, all_stay_linear Fs w.1 h.1 w.3)
