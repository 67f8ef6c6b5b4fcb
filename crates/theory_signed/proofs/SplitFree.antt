-- A symbol that isn't in a formula isn't in the split one.
use Rattle.std.proofs.Common.{◌≡◌, ℕ, zero, suc, ◌+◌, ◌-◌, max, min, Bool, true, false, List, [], ◌∷◌, ◌++◌, replicate, set, None, Some, refl, sym, ap, ◌∙◌, subst, arith}
use Rattle.std.specs.Prelude.{map, nat_eq, get_or, if◌then◌else◌}
use Rattle.theory_meaning.specs.declared.words.Sign.TheVariants.{Zero}
use Rattle.theory_formula.specs.declared.signs.Signs.{Signs}
use Rattle.theory_formula.specs.declared.signs.Signs.TheVariants as set_of
use Rattle.theory_formula.specs.Signs.{has, mirror}
use Rattle.theory_polynomial.specs.Polynomial.{Monomial, powers_of_product, symbol_of, greatest_exponent_of, degree_in, IsFreeOf}
use Rattle.theory_formula.specs.Formula.{Formula, Formulas, always, never, atom, conjunction, disjunction, none, more, formulas_from, sign_at, EachAtom, EachAtomOfAll}
use Rattle.theory_formula.specs.SignCondition.{decided}
use Rattle.theory_signed.specs.CommonPowers.{least_powers, common_powers, powers_less, without_powers, with_powers, odd_part, is_square, squares_from, crossing_from, all_but}
use Rattle.theory_signed.specs.Split.{condition_on, symbol_is, or_zero, crossed, split_by, split_once, with_squares, split, split_all}
use Rattle.theory_signed.proofs.SplitPlaces.{Crosses, crossing, none_more}

first_zero : (m n : ℕ) → max m n ≡ 0 → m ≡ 0
first_zero m n h = grind (arith, h)

second_zero : (m n : ℕ) → max m n ≡ 0 → n ≡ 0
second_zero m n h = grind (arith, h)

both_zero : (m n : ℕ) → m ≡ 0 → n ≡ 0 → max m n ≡ 0
both_zero m n h k = grind (arith, h, k)

least_zero : (m n : ℕ) → m ≡ 0 → min m n ≡ 0
least_zero m n h = grind (arith, h)

sum_zero : (m n : ℕ) → m ≡ 0 → n ≡ 0 → m + n ≡ 0
sum_zero m n h k = omega (arith, h, k)

less_zero : (m n : ℕ) → m ≡ 0 → m - n ≡ 0
less_zero m n h = omega (arith, h)

one_is_not_zero : (n : ℕ) → n ≡ 1 → n ≡ 0 → ⊥
one_is_not_zero n h k = omega (arith, h, k)

next : (x k y : ℕ) → suc x + k ≡ y → x + suc k ≡ y
next x k y h = omega (arith, h)

at_start : (x y : ℕ) → x ≡ y → x + 0 ≡ y
at_start x y h = omega (arith, h)

from_none : (k y : ℕ) → 0 + k ≡ y → k ≡ y
from_none k y h = omega (arith, h)

product_lacks : (e f : List ℕ) (y : ℕ) → get_or e y 0 ≡ 0 → get_or f y 0 ≡ 0 → get_or (powers_of_product e f) y 0 ≡ 0
product_lacks [] f y h k = k
product_lacks (m ∷ e) [] y h k = h
product_lacks (m ∷ e) (n ∷ f) zero h k = sum_zero m n h k
product_lacks (m ∷ e) (n ∷ f) (suc y) h k = product_lacks e f y h k

less_lacks : (f c : List ℕ) (y : ℕ) → get_or f y 0 ≡ 0 → get_or (powers_less f c) y 0 ≡ 0
less_lacks [] c y h = refl
less_lacks (m ∷ f) [] y h = h
less_lacks (m ∷ f) (n ∷ c) zero h = less_zero m n h
less_lacks (m ∷ f) (n ∷ c) (suc y) h = less_lacks f c y h

least_lacks : (e d : List ℕ) (y : ℕ) → get_or e y 0 ≡ 0 → get_or (least_powers e d) y 0 ≡ 0
least_lacks [] d y h = refl
least_lacks (m ∷ e) [] y h = refl
least_lacks (m ∷ e) (n ∷ d) zero h = least_zero m n h
least_lacks (m ∷ e) (n ∷ d) (suc y) h = least_lacks e d y h

common_lacks : (ts : List Monomial) (y : ℕ) → IsFreeOf y ts → get_or (common_powers ts) y 0 ≡ 0
common_lacks [] y h = refl
common_lacks (t ∷ []) y h = first_zero (get_or t.powers y 0) 0 h
common_lacks (t ∷ u ∷ ts) y h =
    least_lacks t.powers (common_powers (u ∷ ts)) y (first_zero (get_or t.powers y 0) (degree_in y (u ∷ ts)) h)

odd_lacks : (c : List ℕ) (y : ℕ) → get_or c y 0 ≡ 0 → get_or (map odd_part c) y 0 ≡ 0
odd_lacks [] y h = refl
odd_lacks (n ∷ c) zero h = ap odd_part h
odd_lacks (n ∷ c) (suc y) h = odd_lacks c y h

but_lacks : (x : ℕ) (e : List ℕ) (y : ℕ) → get_or e y 0 ≡ 0 → get_or (all_but x e) y 0 ≡ 0
but_lacks x [] y h = refl
but_lacks zero (n ∷ e) zero h = refl
but_lacks zero (n ∷ e) (suc y) h = h
but_lacks (suc x) (n ∷ e) zero h = h
but_lacks (suc x) (n ∷ e) (suc y) h = but_lacks x e y h

left_free : (e c : List ℕ) (ts : List Monomial) (y : ℕ) → get_or e y 0 ≡ 0 → IsFreeOf y ts → IsFreeOf y (with_powers e (without_powers c ts))
left_free e c [] y h k = refl
left_free e c (t ∷ ts) y h k =
    both_zero (get_or (powers_of_product e (powers_less t.powers c)) y 0) (degree_in y (with_powers e (without_powers c ts)))
    (product_lacks e (powers_less t.powers c) y h (less_lacks t.powers c y (first_zero (get_or t.powers y 0) (degree_in y ts) k)))
    (left_free e c ts y h (second_zero (get_or t.powers y 0) (degree_in y ts) k))

zeros_lack : (n y : ℕ) → get_or {A = ℕ} (replicate n 0) y 0 ≡ 0
zeros_lack zero y = refl
zeros_lack (suc n) zero = refl
zeros_lack (suc n) (suc y) = zeros_lack n y

one_lacks : (k n y : ℕ) → (k ≡ y → ⊥) → get_or {A = ℕ} (set (replicate n 0) k 1) y 0 ≡ 0
one_lacks k zero y h = refl
one_lacks zero (suc n) zero h = absurd (h refl)
one_lacks zero (suc n) (suc y) h = zeros_lack n y
one_lacks (suc k) (suc n) zero h = refl
one_lacks (suc k) (suc n) (suc y) h = one_lacks k n y (λ e. h (ap suc e))

symbol_free : (x y : ℕ) → (x ≡ y → ⊥) → IsFreeOf y (symbol_of x)
symbol_free x y h = both_zero (get_or (set (replicate 32 0) x 1) y 0) 0 (one_lacks x 32 y h) refl

module _ (y : ℕ) where
  abbrev pub Free : Formula → Type 0
  Free F = EachAtom (λ P S. IsFreeOf y P) F

  abbrev AllFree : Formulas → Type 0
  AllFree Fs = EachAtomOfAll (λ P S. IsFreeOf y P) Fs

  abbrev AreOther : List ℕ → Type 0
  AreOther [] = Unit {0}
  AreOther (x ∷ xs) = (x ≡ y → ⊥) × AreOther xs

  no_square : (n : ℕ) → is_square n ≡ true → n ≡ 0 → ⊥
  no_square n h e = let none_is : is_square 0 ≡ true = subst (λ (m : ℕ). is_square m ≡ true) e h in absurd cc

  squares_other : (x : ℕ) (c : List ℕ) → ((k : ℕ) → x + k ≡ y → get_or c k 0 ≡ 0) → AreOther (squares_from x c)
  squares_other x [] h = tt
  squares_other x (n ∷ c) h =
      let rest : AreOther (squares_from (suc x) c) = squares_other (suc x) c (λ k e. h (suc k) (next x k y e)) in
      elim (is_square n) as (λ b. is_square n ≡ b → AreOther (if b then x ∷ squares_from (suc x) c else squares_from (suc x) c)) [
        | true ↦ λ s. (λ e. no_square n s (h 0 (at_start x y e)), rest)
        | false ↦ λ s. rest
      ] refl

  decided_free : (b : Bool) → Free (decided b)
  decided_free true = tt
  decided_free false = tt

  condition_free : (P : List Monomial) (S : Signs) → IsFreeOf y P → Free (condition_on P S)
  condition_free P S h =
      elim (nat_eq (greatest_exponent_of P) 0) as (λ b. Free (if b then decided (has S (sign_at P [])) else atom P S)) [
        | true ↦ decided_free (has S (sign_at P []))
        | false ↦ h
      ]

  zero_free : (x : ℕ) (S : Signs) → (x ≡ y → ⊥) → AllFree (formulas_from (or_zero x S))
  zero_free x S h =
      elim (has S Zero) as (λ b. AllFree (formulas_from (if b then symbol_is set_of.Zero x ∷ [] else []))) [
        | true ↦ (symbol_free x y h, tt)
        | false ↦ tt
      ]

  crossed_free : (x : ℕ) (Q : List Monomial) (S : Signs) → (x ≡ y → ⊥) → IsFreeOf y Q → Free (crossed x Q S)
  crossed_free x Q S h k = (
    (symbol_free x y h, (condition_free Q S k, tt)),
    ((symbol_free x y h, (condition_free Q (mirror S) k, tt)), zero_free x S h),
  )

  once_free : (e c : List ℕ) (P : List Monomial) (S : Signs) → get_or e y 0 ≡ 0 → IsFreeOf y P → Free (split_once e (without_powers c P) S)
  once_free e c P S h k =
      let ts : List Monomial = without_powers c P in
      elim (crossing_from 0 e (with_powers e ts)) as (λ o. crossing_from 0 e (with_powers e ts) ≡ o → Free (split_by o e ts S)) [
        | None ↦ λ found. condition_free (with_powers e ts) S (left_free e c P y h k)
        | Some x ↦ λ found.
            let z : Crosses 0 e x = crossing 0 e (with_powers e ts) x found in
            let place : z.place ≡ x = sym (z.is ∙ none_more z.place) in
            crossed_free x (with_powers (all_but x e) ts) S
            (λ same. one_is_not_zero (get_or e y 0) (subst (λ (j : ℕ). get_or e j 0 ≡ 1) (place ∙ same) z.one) h)
            (left_free (all_but x e) c P y (but_lacks x e y h) k)
      ] refl

  listed_free : (S : Signs) (xs : List ℕ) (F : Formula) → AreOther xs → Free F → AllFree (formulas_from (map (symbol_is S) xs ++ F ∷ []))
  listed_free S [] F b h = (h, tt)
  listed_free S (x ∷ xs) F b h = (symbol_free x y b.0, listed_free S xs F b.1 h)

  squares_free : (xs : List ℕ) (S : Signs) (F : Formula) → AreOther xs → Free F → Free (with_squares xs S F)
  squares_free [] S F b h = h
  squares_free (x ∷ xs) S F b h =
      elim (has S Zero) as (λ c. Free (if c then disjunction (formulas_from (map (symbol_is set_of.Zero) (x ∷ xs) ++ F ∷ []))
      else conjunction (formulas_from (map (symbol_is set_of.NonZero) (x ∷ xs) ++ F ∷ [])))) [
        | true ↦ listed_free set_of.Zero (x ∷ xs) F b h
        | false ↦ listed_free set_of.NonZero (x ∷ xs) F b h
      ]

  mutual
    pub split_free : (F : Formula) → Free F → Free (split F)
    split_free always h = tt
    split_free never h = tt
    split_free (atom P S) h =
        let c : List ℕ = common_powers P in
        let lacks : get_or c y 0 ≡ 0 = common_lacks P y h in
        squares_free (squares_from 0 c) S (split_once (map odd_part c) (without_powers c P) S)
        (squares_other 0 c (λ k e. subst (λ (j : ℕ). get_or c j 0 ≡ 0) (sym (from_none k y e)) lacks))
        (once_free (map odd_part c) c P S (odd_lacks c y lacks) h)
    split_free (conjunction Fs) h = all_free Fs h
    split_free (disjunction Fs) h = all_free Fs h

    all_free : (Fs : Formulas) → AllFree Fs → AllFree (split_all Fs)
    all_free none h = tt
    all_free (more F Fs) h = (split_free F h.0, all_free Fs h.1)
