-- The sign of a polynomial is a possible one where the facts are true.
use Rattle.std.proofs.Common.{◌≡◌, ℕ, suc, ◌<◌, Bool, true, false, List, [], ◌∷◌, None, Some, pos, refl, sym, ap, ap₂, ◌∙◌, arith}
use Rattle.std.specs.Prelude.{◌&&◌, if◌then◌else◌, nat_lt}
use Rattle.theory_meaning.specs.Fraction.{Fraction, whole, sum_of as fraction_sum}
use Rattle.theory_meaning.proofs.FractionLaws.{sum_assoc}
use Rattle.theory_meaning.specs.declared.words.Sign.{Sign}
use Rattle.theory_meaning.specs.declared.words.Sign.TheVariants.{Minus, Zero, Plus}
use Rattle.theory_formula.specs.declared.signs.Signs.{Signs}
use Rattle.theory_formula.specs.declared.signs.Signs.TheVariants as set
use Rattle.theory_formula.specs.Signs.{has, sign_of_whole, sign_of}
use Rattle.theory_polynomial.specs.Terms.{Monomial, symbol_of}
use Rattle.theory_polynomial.specs.PolynomialValue.{Values, first_of, rest_of, symbol_at, power_product, term_at, polynomial_at}
use Rattle.theory_formula.specs.Formula.{sign_at}
use Rattle.theory_elimination.specs.Facts.{Facts, AreTrueAt, known_set, judged_by}
use Rattle.theory_elimination.proofs.SetTruth.{made_of, picked}
use Rattle.theory_elimination.proofs.FactTruth.{known_has, judged_as}
use Rattle.theory_elimination.specs.TestPoint.{is_same_sign}
use Rattle.theory_signed.specs.SignRules.{product_sign, power_sign, can_sum, Known, may_be, known_by, some_sign, powers, products, sums}
use Rattle.theory_signed.specs.PossibleSigns.{of_powers, of_term, of_terms, of_symbols, possible_signs, is_symbol, judged_by_signs}
use Rattle.theory_signed.proofs.SignsOfProducts.{sign_product, sign_powers, sign_sum, is_own_sign, can_be_sum, sum_zero, symbol_sign}

picks : (f : Sign → Bool) (s : Sign) → picked (f Minus) (f Zero) (f Plus) s ≡ f s
picks f Minus = refl
picks f Zero = refl
picks f Plus = refl

known_may : (f : Sign → Bool) (s : Sign) → f s ≡ true → may_be (known_by f) s ≡ true
known_may f s h =
    elim (known_by f) as (λ m. known_by f ≡ m → may_be m s ≡ true) [
      | None ↦ λ e. refl
      | Some R ↦ λ e. made_of (f Minus) (f Zero) (f Plus) R s e ∙ picks f s ∙ h
    ] refl

some_may : (f : Sign → Bool) (s : Sign) → f s ≡ true → some_sign f ≡ true
some_may f Minus h = grind (arith, h)
some_may f Zero h = grind (arith, h)
some_may f Plus h = grind (arith, h)

both_hold : (a b : Bool) → a ≡ true → b ≡ true → a && b ≡ true
both_hold a b h k = ap₂ ◌&&◌ h k

powers_may : (T : Known) (n : ℕ) (s : Sign) → may_be T s ≡ true → may_be (powers T n) (power_sign s n) ≡ true
powers_may T n s h =
    known_may (λ r. some_sign (λ s. may_be T s && is_same_sign (power_sign s n) r)) (power_sign s n)
    (some_may (λ (s' : Sign). may_be T s' && is_same_sign (power_sign s' n) (power_sign s n)) s
    (both_hold (may_be T s) (is_same_sign (power_sign s n) (power_sign s n)) h (is_own_sign (power_sign s n))))

-- what comes of a possible sign of each
pairs_may : (R : Sign → Sign → Sign → Bool) (T U : Known) (s t r : Sign) → may_be T s ≡ true → may_be U t ≡ true → R s t r ≡ true
    → may_be (known_by (λ r. some_sign (λ s. some_sign (λ t. (may_be T s && may_be U t) && R s t r)))) r ≡ true
pairs_may R T U s t r h k e =
    known_may (λ r. some_sign (λ s. some_sign (λ t. (may_be T s && may_be U t) && R s t r))) r
    (some_may (λ (s' : Sign). some_sign (λ t. (may_be T s' && may_be U t) && R s' t r)) s
    (some_may (λ (t' : Sign). (may_be T s && may_be U t') && R s t' r) t
    (both_hold (may_be T s && may_be U t) (R s t r) (both_hold (may_be T s) (may_be U t) h k) e)))

products_may : (T U : Known) (s t : Sign) → may_be T s ≡ true → may_be U t ≡ true → may_be (products T U) (product_sign s t) ≡ true
products_may T U s t h k = pairs_may (λ s t r. is_same_sign (product_sign s t) r) T U s t (product_sign s t) h k (is_own_sign (product_sign s t))

sums_may : (T U : Known) (s t r : Sign) → may_be T s ≡ true → may_be U t ≡ true → can_sum s t r ≡ true → may_be (sums T U) r ≡ true
sums_may T U s t r h k e = pairs_may can_sum T U s t r h k e

-- what is known of each symbol is right at the point
abbrev AreRight : Values → (ℕ → Known) → Type 0
AreRight p known = (k : ℕ) → may_be (known k) (sign_of (symbol_at k p)) ≡ true

powers_right : (p : Values) (known : ℕ → Known) (e : List ℕ) → AreRight p known → may_be (of_powers known e) (sign_of (power_product e p)) ≡ true
powers_right p known [] h = refl
powers_right p known (n ∷ e) h =
    ap (may_be (of_powers known (n ∷ e))) (sign_powers n e p)
    ∙ products_may (powers (known 0) n) (of_powers (λ k. known (suc k)) e) (power_sign (sign_of (first_of p)) n)
    (sign_of (power_product e (rest_of p)))
    (powers_may (known 0) n (sign_of (first_of p)) (h 0))
    (powers_right (rest_of p) (λ k. known (suc k)) e (λ k. h (suc k)))

term_right : (p : Values) (known : ℕ → Known) (t : Monomial) → AreRight p known → may_be (of_term known t) (sign_of (term_at t p)) ≡ true
term_right p known t h =
    ap (may_be (of_term known t)) (sign_product (whole t.coefficient) (power_product t.powers p))
    ∙ products_may (known_by (is_same_sign (sign_of_whole t.coefficient))) (of_powers known t.powers) (sign_of_whole t.coefficient)
    (sign_of (power_product t.powers p))
    (known_may (is_same_sign (sign_of_whole t.coefficient)) (sign_of_whole t.coefficient) (is_own_sign (sign_of_whole t.coefficient)))
    (powers_right p known t.powers h)

-- terms that are added to a number
terms_right : (p : Values) (known : ℕ → Known) (T : Known) (q : Fraction) (ts : List Monomial) → AreRight p known → may_be T (sign_of q) ≡ true
    → may_be (of_terms known T ts) (sign_of (fraction_sum q (polynomial_at ts p))) ≡ true
terms_right p known T q [] h k = ap (may_be T) (sum_zero (sign_of q) (sign_of (fraction_sum q (whole (pos 0)))) (sign_sum q (whole (pos 0)))) ∙ k
terms_right p known T q (t ∷ ts) h k =
    let v : Fraction = term_at t p in
    let rest : Fraction = polynomial_at ts p in
    let next : Known = sums T (of_term known t) in
    ap (λ (r : Fraction). may_be (of_terms known next ts) (sign_of r)) (sym (sum_assoc q v rest))
    ∙ terms_right p known next (fraction_sum q v) ts h
    (sums_may T (of_term known t) (sign_of q) (sign_of v) (sign_of (fraction_sum q v)) k (term_right p known t h)
    (can_be_sum (sign_of q) (sign_of v) (sign_of (fraction_sum q v)) (sign_sum q v)))

set_right : (p : Values) (K : Facts) (k : ℕ) → AreTrueAt p K → k < 32 → may_be (known_set (symbol_of k) K) (sign_of (symbol_at k p)) ≡ true
set_right p K k h b =
    elim (known_set (symbol_of k) K) as (λ m. known_set (symbol_of k) K ≡ m → may_be m (sign_of (symbol_at k p)) ≡ true) [
      | None ↦ λ e. refl
      | Some T ↦ λ e. ap (has T) (sym (symbol_sign k p b)) ∙ known_has p (symbol_of k) K T h e
    ] refl

below : (k : ℕ) → nat_lt k 32 ≡ true → k < 32
below k e = grind (arith, e)

symbols_right : (p : Values) (K : Facts) → AreTrueAt p K → AreRight p (of_symbols K)
symbols_right p K h k =
    elim (nat_lt k 32) as (λ b. nat_lt k 32 ≡ b → may_be (if b then known_set (symbol_of k) K else None) (sign_of (symbol_at k p)) ≡ true) [
      | true ↦ λ e. set_right p K k h (below k e)
      | false ↦ λ e. refl
    ] refl

pub possible_right : (p : Values) (K : Facts) (P : List Monomial) → AreTrueAt p K → may_be (possible_signs K P) (sign_at P p) ≡ true
possible_right p K P h =
    ap (may_be (possible_signs K P)) (sym (sign_sum (whole (pos 0)) (polynomial_at P p)))
    ∙ terms_right p (of_symbols K) (Some set.Zero) (whole (pos 0)) P (symbols_right p K h) refl

-- a condition that is decided by signs is as they say
pub by_signs_has : (p : Values) (K : Facts) (P : List Monomial) (S : Signs) (b : Bool) → AreTrueAt p K → judged_by_signs K P S ≡ Some b
    → has S (sign_at P p) ≡ b
by_signs_has p K P S b h e =
    elim (is_symbol P) as (λ y. (if y then None else judged_by S (possible_signs K P)) ≡ Some b → has S (sign_at P p) ≡ b) [
      | true ↦ λ e'. absurd cc
      | false ↦ λ e'.
          elim (possible_signs K P) as (λ m. may_be m (sign_at P p) ≡ true → judged_by S m ≡ Some b → has S (sign_at P p) ≡ b) [
            | None ↦ λ k e''. absurd cc
            | Some T ↦ λ k e''. judged_as S T (sign_at P p) b k e''
          ] (possible_right p K P h) e'
    ] e
