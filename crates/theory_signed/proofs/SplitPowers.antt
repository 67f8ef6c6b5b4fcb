-- Common exponents: a polynomial is the product of its common powers and of what is left.
use Rattle.std.proofs.Common.{◌≡◌, ℕ, zero, suc, ◌+◌, ◌-◌, ◌≤◌, min, List, [], ◌∷◌, pos, refl, sym, ap, ap₂, ◌∙◌, arith}
use Rattle.std.specs.Prelude.{◌*ℤ◌, get_or}
use Rattle.std.proofs.lemmas.Int.{ints}
use Rattle.theory_meaning.specs.Fraction.{Fraction, whole, product_of as fraction_product}
use Rattle.theory_meaning.specs.declared.words.Sign.{Sign}
use Rattle.theory_meaning.specs.declared.words.Sign.TheVariants.{Minus, Zero, Plus}
use Rattle.theory_formula.specs.Signs.{sign_of}
use Rattle.theory_polynomial.specs.Polynomial.{Monomial, monomial, powers_of_product, multiple_of}
use Rattle.theory_polynomial.specs.PolynomialValue.{Values, first_of, rest_of, symbol_at, power_product, term_at, polynomial_at}
use Rattle.theory_formula.specs.Formula.{sign_at}
use Rattle.theory_meaning.proofs.FractionLaws.{Equals, back, sign_of_same}
use Rattle.theory_polynomial.proofs.PolynomialValues.{value_of_multiple}
use Rattle.theory_formula.proofs.ConditionLaws.{sign_of_own, sign_of_only}
use Rattle.theory_signed.specs.SignRules.{product_sign, power_sign}
use Rattle.theory_signed.specs.CommonPowers.{least_powers, common_powers, powers_less, without_powers, with_powers, all_but}
use Rattle.theory_signed.proofs.SignsOfProducts.{sign_product, sign_powers}

-- at each place at most
abbrev pub IsUnder : List ℕ → List ℕ → Type 0
IsUnder [] f = Unit {0}
IsUnder (m ∷ e) [] = ⊥
IsUnder (m ∷ e) (n ∷ f) = (m ≤ n) × IsUnder e f

least_left : (m n : ℕ) → min m n ≤ m
least_left m n = grind arith

least_right : (m n k : ℕ) → n ≤ k → min m n ≤ k
least_right m n k h = grind (arith, h)

whole_under : (e : List ℕ) → IsUnder e e
whole_under [] = tt
whole_under (m ∷ e) = (omega arith, whole_under e)

left_under : (e d : List ℕ) → IsUnder (least_powers e d) e
left_under [] d = tt
left_under (m ∷ e) [] = tt
left_under (m ∷ e) (n ∷ d) = (least_left m n, left_under e d)

right_under : (e d f : List ℕ) → IsUnder d f → IsUnder (least_powers e d) f
right_under [] d f h = tt
right_under (m ∷ e) [] f h = tt
right_under (m ∷ e) (n ∷ d) [] h = absurd h
right_under (m ∷ e) (n ∷ d) (k ∷ f) h = (least_right m n k h.0, right_under e d f h.1)

abbrev pub AreUnder : List ℕ → List Monomial → Type 0
AreUnder d [] = Unit {0}
AreUnder d (t ∷ ts) = IsUnder d t.powers × AreUnder d ts

all_right_under : (e d : List ℕ) (ts : List Monomial) → AreUnder d ts → AreUnder (least_powers e d) ts
all_right_under e d [] h = tt
all_right_under e d (t ∷ ts) h = (right_under e d t.powers h.0, all_right_under e d ts h.1)

pub common_under : (ts : List Monomial) → AreUnder (common_powers ts) ts
common_under [] = tt
common_under (t ∷ []) = (whole_under t.powers, tt)
common_under (t ∷ u ∷ ts) =
    (left_under t.powers (common_powers (u ∷ ts)), all_right_under t.powers (common_powers (u ∷ ts)) (u ∷ ts) (common_under (u ∷ ts)))

-- what is taken out and put back
put_back : (m n : ℕ) → m ≤ n → m + (n - m) ≡ n
put_back m n h = omega (arith, h)

powers_back : (d e : List ℕ) → IsUnder d e → powers_of_product d (powers_less e d) ≡ e
powers_back [] [] h = refl
powers_back [] (n ∷ e) h = refl
powers_back (m ∷ d) [] h = absurd h
powers_back (m ∷ d) (n ∷ e) h = ap₂ (λ (k : ℕ) (f : List ℕ). k ∷ f) (put_back m n h.0) (powers_back d e h.1)

term_back : (d : List ℕ) (t : Monomial) → IsUnder d t.powers
    → monomial (pos 1 *ℤ t.coefficient) (powers_of_product d (powers_less t.powers d)) ≡ t
term_back d t h = ap₂ monomial (omega (arith, ints)) (powers_back d t.powers h)

terms_back : (d : List ℕ) (ts : List Monomial) → AreUnder d ts → with_powers d (without_powers d ts) ≡ ts
terms_back d [] h = refl
terms_back d (t ∷ ts) h = ap₂ (λ (u : Monomial) (us : List Monomial). u ∷ us) (term_back d t h.0) (terms_back d ts h.1)

-- the sign of such a product
same_sign : (q r : Fraction) → Equals q r → sign_of q ≡ sign_of r
same_sign q r e = sign_of_only q (sign_of r) (sign_of_same r q (sign_of r) (back e).is (sign_of_own r))

pub with_powers_sign : (e : List ℕ) (ts : List Monomial) (p : Values)
    → sign_at (with_powers e ts) p ≡ product_sign (sign_of (power_product e p)) (sign_at ts p)
with_powers_sign e ts p =
    let t : Monomial = monomial (pos 1) e in
    same_sign (polynomial_at (multiple_of t ts) p) (fraction_product (term_at t p) (polynomial_at ts p)) (value_of_multiple t ts p)
    ∙ sign_product (term_at t p) (polynomial_at ts p)
    ∙ ap (λ (s : Sign). product_sign s (sign_at ts p)) (sign_product (whole (pos 1)) (power_product e p))

pub common_sign : (P : List Monomial) (p : Values)
    → sign_at P p ≡ product_sign (sign_of (power_product (common_powers P) p)) (sign_at (without_powers (common_powers P) P) p)
common_sign P p =
    ap (λ (ts : List Monomial). sign_at ts p) (sym (terms_back (common_powers P) P (common_under P)))
    ∙ with_powers_sign (common_powers P) (without_powers (common_powers P) P) p

-- one symbol apart
swap : (a b c : Sign) → product_sign a (product_sign b c) ≡ product_sign b (product_sign a c)
swap Minus Minus c = refl
swap Minus Zero c = refl
swap Minus Plus c = refl
swap Zero Minus c = refl
swap Zero Zero c = refl
swap Zero Plus c = refl
swap Plus Minus c = refl
swap Plus Zero c = refl
swap Plus Plus c = refl

pub one_apart : (k : ℕ) (e : List ℕ) (p : Values) → get_or e k 0 ≡ 1
    → sign_of (power_product e p) ≡ product_sign (sign_of (symbol_at k p)) (sign_of (power_product (all_but k e) p))
one_apart k [] p h = absurd cc
one_apart zero (n ∷ e) p h =
    sign_powers n e p
    ∙ ap₂ product_sign (ap (power_sign (sign_of (first_of p))) h) (sym (sign_powers 0 e p))
one_apart (suc k) (n ∷ e) p h =
    sign_powers n e p
    ∙ ap (product_sign (power_sign (sign_of (first_of p)) n)) (one_apart k e (rest_of p) h)
    ∙ swap (power_sign (sign_of (first_of p)) n) (sign_of (symbol_at k (rest_of p))) (sign_of (power_product (all_but k e) (rest_of p)))
    ∙ ap (product_sign (sign_of (symbol_at k (rest_of p)))) (sym (sign_powers n (all_but k e) p))
