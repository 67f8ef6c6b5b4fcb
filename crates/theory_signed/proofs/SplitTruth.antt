-- A split formula has the truth of the formula at every point.
use Rattle.std.proofs.Common.{◌≡◌, ℕ, ◌<◌, ◌≤◌, max, Bool, true, false, not, List, [], ◌∷◌, ◌++◌, length, None, Some, pos, refl, sym, ap, ap₂, ◌∙◌, subst, arith}
use Rattle.std.specs.Prelude.{◌&&◌, ◌||◌, map, nat_eq, get_or, if◌then◌else◌}
use Rattle.theory_meaning.specs.Fraction.{Fraction, whole, sum_of as fraction_sum, product_of as fraction_product, power_of, opposite_sign}
use Rattle.theory_meaning.specs.declared.words.Sign.{Sign}
use Rattle.theory_meaning.specs.declared.words.Sign.TheVariants.{Minus, Zero, Plus}
use Rattle.theory_formula.specs.declared.signs.Signs.{Signs}
use Rattle.theory_formula.specs.declared.signs.Signs.TheVariants as set
use Rattle.theory_formula.specs.Signs.{has, mirror, is_zero, sign_of}
use Rattle.theory_polynomial.specs.Polynomial.{Monomial, symbol_of, IsPolynomial, greatest_exponent_of, greatest_of}
use Rattle.theory_polynomial.specs.PolynomialValue.{Values, first_of, rest_of, symbol_at, power_product, polynomial_at}
use Rattle.theory_formula.specs.Formula.{Formula, Formulas, always, never, atom, conjunction, disjunction, none, more, formulas_from, sign_at, truth_at, all_by, some_by, reading_at, EachAtom, EachAtomOfAll}
use Rattle.theory_formula.specs.SignCondition.{decided}
use Rattle.theory_meaning.proofs.FractionLaws.{one_times}
use Rattle.theory_formula.proofs.ConditionLaws.{mirror_has_opposite}
use Rattle.theory_elimination.proofs.SetTruth.{picked}
use Rattle.theory_signed.specs.SignRules.{product_sign}
use Rattle.theory_signed.specs.CommonPowers.{common_powers, without_powers, with_powers, odd_part, squares_from, crossing_from, all_but}
use Rattle.theory_signed.specs.Split.{condition_on, symbol_is, or_zero, crossed, split_by, split_once, with_squares, split_atom, split, split_all}
use Rattle.theory_signed.proofs.SignsOfProducts.{symbol_sign}
use Rattle.theory_signed.proofs.SplitPlaces.{none_more, none_before, below_limit, from_start, Crosses, crossing, AreBelow, squares_below, common_length, mapped_length}
use Rattle.theory_signed.proofs.SplitPowers.{with_powers_sign, common_sign, one_apart}
use Rattle.theory_signed.proofs.SquareSigns.{some_zero, square_sign}

-- a polynomial without symbols has one value
first_zero : (m n : ℕ) → max m n ≡ 0 → m ≡ 0
first_zero m n h = grind (arith, h)

second_zero : (m n : ℕ) → max m n ≡ 0 → n ≡ 0
second_zero m n h = grind (arith, h)

no_powers_value : (e : List ℕ) (p : Values) → greatest_of e ≡ 0 → power_product e p ≡ whole (pos 1)
no_powers_value [] p h = refl
no_powers_value (n ∷ e) p h =
    ap₂ fraction_product (ap (power_of (first_of p)) (first_zero n (greatest_of e) h))
    (no_powers_value e (rest_of p) (second_zero n (greatest_of e) h))
    ∙ one_times (whole (pos 1))

constant_value : (ts : List Monomial) (p q : Values) → greatest_exponent_of ts ≡ 0 → polynomial_at ts p ≡ polynomial_at ts q
constant_value [] p q h = refl
constant_value (t ∷ ts) p q h =
    let none_here : greatest_of t.powers ≡ 0 = first_zero (greatest_of t.powers) (greatest_exponent_of ts) h in
    ap₂ fraction_sum
    (ap (fraction_product (whole t.coefficient)) (no_powers_value t.powers p none_here ∙ sym (no_powers_value t.powers q none_here)))
    (constant_value ts p q (second_zero (greatest_of t.powers) (greatest_exponent_of ts) h))

equal_zero : (n : ℕ) → nat_eq n 0 ≡ true → n ≡ 0
equal_zero n h = grind (arith, h)

-- truths
or_false : (b : Bool) → b || false ≡ b
or_false true = refl
or_false false = refl

and_true : (b : Bool) → b && true ≡ b
and_true true = refl
and_true false = refl

or_assoc : (a b c : Bool) → a || (b || c) ≡ (a || b) || c
or_assoc true b c = refl
or_assoc false b c = refl

and_not : (a b c : Bool) → not a && (not b && c) ≡ not (a || b) && c
and_not true b c = refl
and_not false b c = refl

either_sign : (z : Bool) (S : Signs) (r : Sign) → has S Zero ≡ true → z || has S r ≡ has S (if z then Zero else r)
either_sign true S r e = sym e
either_sign false S r e = refl

both_sign : (z : Bool) (S : Signs) (r : Sign) → has S Zero ≡ false → not z && has S r ≡ has S (if z then Zero else r)
both_sign true S r e = sym e
both_sign false S r e = refl

module _ (p : Values) where
  decided_truth : (b : Bool) → truth_at (decided b) p ≡ b
  decided_truth true = refl
  decided_truth false = refl

  pub condition_truth : (P : List Monomial) (S : Signs) → truth_at (condition_on P S) p ≡ has S (sign_at P p)
  condition_truth P S =
      elim (nat_eq (greatest_exponent_of P) 0) as (λ b. nat_eq (greatest_exponent_of P) 0 ≡ b
      → truth_at (if b then decided (has S (sign_at P [])) else atom P S) p ≡ has S (sign_at P p)) [
        | true ↦ λ e. decided_truth (has S (sign_at P []))
            ∙ ap (λ (q : Fraction). has S (sign_of q)) (constant_value P [] p (equal_zero (greatest_exponent_of P) e))
        | false ↦ λ e. refl
      ] refl

  -- a symbol times a polynomial
  opposite_twice : (s : Sign) → opposite_sign (opposite_sign s) ≡ s
  opposite_twice Minus = refl
  opposite_twice Zero = refl
  opposite_twice Plus = refl

  mirrored : (S : Signs) (t : Sign) → has (mirror S) t ≡ has S (opposite_sign t)
  mirrored S t = ap (has (mirror S)) (sym (opposite_twice t)) ∙ mirror_has_opposite S (opposite_sign t)

  zero_truth : (x : ℕ) (S : Signs) → some_by (reading_at p) (formulas_from (or_zero x S)) ≡ has S Zero && has set.Zero (sign_at (symbol_of x) p)
  zero_truth x S =
      elim (has S Zero) as (λ b. some_by (reading_at p) (formulas_from (if b then symbol_is set.Zero x ∷ [] else []))
      ≡ b && has set.Zero (sign_at (symbol_of x) p)) [
        | true ↦ or_false (has set.Zero (sign_at (symbol_of x) p))
        | false ↦ refl
      ]

  by_sign : (a b z : Bool) (s : Sign) → (has set.Pos s && (a && true)) || ((has set.Neg s && (b && true)) || (z && has set.Zero s)) ≡ picked b z a s
  by_sign true b true Plus = refl
  by_sign true b false Plus = refl
  by_sign false b true Plus = refl
  by_sign false b false Plus = refl
  by_sign a true true Minus = refl
  by_sign a true false Minus = refl
  by_sign a false true Minus = refl
  by_sign a false false Minus = refl
  by_sign a b true Zero = refl
  by_sign a b false Zero = refl

  picked_sign : (S : Signs) (s t : Sign) → picked (has S (opposite_sign t)) (has S Zero) (has S t) s ≡ has S (product_sign s t)
  picked_sign S Minus t = refl
  picked_sign S Zero t = refl
  picked_sign S Plus t = refl

  crossed_truth : (x : ℕ) (Q : List Monomial) (S : Signs) → x < 32
      → truth_at (crossed x Q S) p ≡ has S (product_sign (sign_of (symbol_at x p)) (sign_at Q p))
  crossed_truth x Q S h =
      let s : Sign = sign_at (symbol_of x) p in
      let t : Sign = sign_at Q p in
      ap₂ (λ (a c : Bool). (has set.Pos s && (a && true)) || ((has set.Neg s && (truth_at (condition_on Q (mirror S)) p && true)) || c))
      (condition_truth Q S) (zero_truth x S)
      ∙ ap (λ (b : Bool). (has set.Pos s && (has S t && true)) || ((has set.Neg s && (b && true)) || (has S Zero && has set.Zero s)))
      (condition_truth Q (mirror S) ∙ mirrored S t)
      ∙ by_sign (has S t) (has S (opposite_sign t)) (has S Zero) s
      ∙ picked_sign S s t
      ∙ ap (λ (r : Sign). has S (product_sign r t)) (symbol_sign x p h)

  times_assoc : (a b c : Sign) → product_sign (product_sign a b) c ≡ product_sign a (product_sign b c)
  times_assoc Zero b c = refl
  times_assoc Plus b c = refl
  times_assoc Minus Minus Minus = refl
  times_assoc Minus Minus Zero = refl
  times_assoc Minus Minus Plus = refl
  times_assoc Minus Zero c = refl
  times_assoc Minus Plus c = refl

  once_truth : (e : List ℕ) (ts : List Monomial) (S : Signs) → length e ≤ 32
      → truth_at (split_once e ts S) p ≡ has S (sign_at (with_powers e ts) p)
  once_truth e ts S h =
      elim (crossing_from 0 e (with_powers e ts)) as (λ o. crossing_from 0 e (with_powers e ts) ≡ o
      → truth_at (split_by o e ts S) p ≡ has S (sign_at (with_powers e ts) p)) [
        | None ↦ λ found. condition_truth (with_powers e ts) S
        | Some x ↦ λ found.
            let c : Crosses 0 e x = crossing 0 e (with_powers e ts) x found in
            let s : Sign = sign_of (symbol_at x p) in
            let place : c.place ≡ x = sym (c.is ∙ none_more c.place) in
            let rest : Sign = sign_of (power_product (all_but x e) p) in
            crossed_truth x (with_powers (all_but x e) ts) S (below_limit c.place x (length e) place c.below h)
            ∙ ap (λ (r : Sign). has S (product_sign s r)) (with_powers_sign (all_but x e) ts p)
            ∙ ap (has S) (sym (times_assoc s rest (sign_at ts p)))
            ∙ ap (λ (r : Sign). has S (product_sign r (sign_at ts p))) (sym (one_apart x e p (subst (λ (k : ℕ). get_or e k 0 ≡ 1) place c.one)))
            ∙ ap (has S) (sym (with_powers_sign e ts p))
      ] refl

  is_zero_has : (s : Sign) → has set.Zero s ≡ is_zero s
  is_zero_has Minus = refl
  is_zero_has Zero = refl
  is_zero_has Plus = refl

  not_zero_has : (s : Sign) → has set.NonZero s ≡ not (is_zero s)
  not_zero_has Minus = refl
  not_zero_has Zero = refl
  not_zero_has Plus = refl

  or_truth : (xs : List ℕ) (F : Formula) → AreBelow xs
      → some_by (reading_at p) (formulas_from (map (symbol_is set.Zero) xs ++ F ∷ [])) ≡ some_zero p xs || truth_at F p
  or_truth [] F h = or_false (truth_at F p)
  or_truth (x ∷ xs) F h =
      ap₂ ◌||◌ (ap (has set.Zero) (symbol_sign x p h.0) ∙ is_zero_has (sign_of (symbol_at x p))) (or_truth xs F h.1)
      ∙ or_assoc (is_zero (sign_of (symbol_at x p))) (some_zero p xs) (truth_at F p)

  and_truth : (xs : List ℕ) (F : Formula) → AreBelow xs
      → all_by (reading_at p) (formulas_from (map (symbol_is set.NonZero) xs ++ F ∷ [])) ≡ not (some_zero p xs) && truth_at F p
  and_truth [] F h = and_true (truth_at F p)
  and_truth (x ∷ xs) F h =
      ap₂ ◌&&◌ (ap (has set.NonZero) (symbol_sign x p h.0) ∙ not_zero_has (sign_of (symbol_at x p))) (and_truth xs F h.1)
      ∙ and_not (is_zero (sign_of (symbol_at x p))) (some_zero p xs) (truth_at F p)

  squares_truth : (xs : List ℕ) (S : Signs) (F : Formula) (r : Sign) → AreBelow xs → truth_at F p ≡ has S r
      → truth_at (with_squares xs S F) p ≡ has S (if some_zero p xs then Zero else r)
  squares_truth [] S F r b h = h
  squares_truth (x ∷ xs) S F r b h =
      let z : Bool = some_zero p (x ∷ xs) in
      elim (has S Zero) as (λ c. has S Zero ≡ c → truth_at (if c then disjunction (formulas_from (map (symbol_is set.Zero) (x ∷ xs) ++ F ∷ []))
      else conjunction (formulas_from (map (symbol_is set.NonZero) (x ∷ xs) ++ F ∷ []))) p ≡ has S (if z then Zero else r)) [
        | true ↦ λ e. or_truth (x ∷ xs) F b ∙ ap (λ (u : Bool). z || u) h ∙ either_sign z S r e
        | false ↦ λ e. and_truth (x ∷ xs) F b ∙ ap (λ (u : Bool). not z && u) h ∙ both_sign z S r e
      ] refl

  pulled : (z : Bool) (a t : Sign) → product_sign (if z then Zero else a) t ≡ (if z then Zero else product_sign a t)
  pulled true a t = refl
  pulled false a t = refl

  pub atom_truth : (P : List Monomial) (S : Signs) → IsPolynomial P → truth_at (split_atom P S) p ≡ has S (sign_at P p)
  atom_truth P S h =
      let c : List ℕ = common_powers P in
      let q : List Monomial = without_powers c P in
      let o : List ℕ = map odd_part c in
      let z : Bool = some_zero p (squares_from 0 c) in
      let short : length c ≤ 32 = common_length P h in
      squares_truth (squares_from 0 c) S (split_once o q S) (sign_at (with_powers o q) p) (squares_below 0 c (from_start (length c) short))
      (once_truth o q S (subst (λ (n : ℕ). n ≤ 32) (sym (mapped_length c)) short))
      ∙ ap (λ (r : Sign). has S (if z then Zero else r)) (with_powers_sign o q p)
      ∙ ap (has S) (sym (pulled z (sign_of (power_product o p)) (sign_at q p)))
      ∙ ap (λ (r : Sign). has S (product_sign r (sign_at q p))) (sym (square_sign p 0 c p (λ k. ap (λ (j : ℕ). symbol_at j p) (none_before k))))
      ∙ ap (has S) (sym (common_sign P p))

  mutual
    pub split_truth : (F : Formula) → EachAtom (λ P S. IsPolynomial P) F → truth_at (split F) p ≡ truth_at F p
    split_truth always h = refl
    split_truth never h = refl
    split_truth (atom P S) h = atom_truth P S h
    split_truth (conjunction Fs) h = split_all_truth Fs h
    split_truth (disjunction Fs) h = split_some_truth Fs h

    split_all_truth : (Fs : Formulas) → EachAtomOfAll (λ P S. IsPolynomial P) Fs → all_by (reading_at p) (split_all Fs) ≡ all_by (reading_at p) Fs
    split_all_truth none h = refl
    split_all_truth (more F Fs) h = ap₂ ◌&&◌ (split_truth F h.0) (split_all_truth Fs h.1)

    split_some_truth : (Fs : Formulas) → EachAtomOfAll (λ P S. IsPolynomial P) Fs → some_by (reading_at p) (split_all Fs) ≡ some_by (reading_at p) Fs
    split_some_truth none h = refl
    split_some_truth (more F Fs) h = ap₂ ◌||◌ (split_truth F h.0) (split_some_truth Fs h.1)
