-- Signs of products, powers and sums of fractions, and of symbols.
use Rattle.std.proofs.Common.{◌≡◌, ℕ, zero, suc, ◌<◌, true, List, [], ◌∷◌, pos, replicate, set, refl, ap, ◌∙◌, subst, arith}
use Rattle.theory_meaning.specs.Fraction.{Fraction, whole, cross, sum_of as fraction_sum, product_of as fraction_product, power_of}
use Rattle.theory_meaning.specs.declared.words.Sign.{Sign}
use Rattle.theory_meaning.specs.declared.words.Sign.TheVariants.{Minus, Zero, Plus}
use Rattle.theory_formula.specs.Signs.{sign_of_whole, sign_of}
use Rattle.theory_polynomial.specs.Terms.{Monomial, monomial, symbol_of}
use Rattle.theory_polynomial.specs.PolynomialValue.{Values, first_of, rest_of, symbol_at, power_product, term_at}
use Rattle.theory_formula.specs.Formula.{sign_at}
use Rattle.theory_elimination.proofs.SignSums.{times, CanSum, sign_of_sum, sign_of_product, sign_of_scaled}
use Rattle.theory_elimination.specs.TestPoint.{is_same_sign}
use Rattle.theory_signed.specs.SignRules.{product_sign, power_sign, can_sum}

same_times : (s t : Sign) → times s t ≡ product_sign s t
same_times Minus t = refl
same_times Zero t = refl
same_times Plus t = refl

pub product_plus : (s : Sign) → product_sign s Plus ≡ s
product_plus Minus = refl
product_plus Zero = refl
product_plus Plus = refl

pub sign_product : (q r : Fraction) → sign_of (fraction_product q r) ≡ product_sign (sign_of q) (sign_of r)
sign_product q r = sign_of_product q.num r.num ∙ same_times (sign_of q) (sign_of r)

pub sign_power : (q : Fraction) (n : ℕ) → sign_of (power_of q n) ≡ power_sign (sign_of q) n
sign_power q zero = refl
sign_power q (suc n) = sign_product (power_of q n) q ∙ ap (λ (s : Sign). product_sign s (sign_of q)) (sign_power q n)

-- a factor and powers of the symbols behind it
pub sign_powers : (n : ℕ) (e : List ℕ) (p : Values) → sign_of (power_product (n ∷ e) p)
    ≡ product_sign (power_sign (sign_of (first_of p)) n) (sign_of (power_product e (rest_of p)))
sign_powers n e p =
    sign_product (power_of (first_of p) n) (power_product e (rest_of p))
    ∙ ap (λ (s : Sign). product_sign s (sign_of (power_product e (rest_of p)))) (sign_power (first_of p) n)

pub sign_sum : (q r : Fraction) → CanSum (sign_of q) (sign_of r) (sign_of (fraction_sum q r))
sign_sum q r =
    subst (λ (s : Sign). CanSum s (sign_of r) (sign_of (fraction_sum q r))) (sign_of_scaled q.num r.less)
    (subst (λ (t : Sign). CanSum (sign_of_whole (cross q r)) t (sign_of (fraction_sum q r))) (sign_of_scaled r.num q.less)
    (sign_of_sum (cross q r) (cross r q)))

pub is_own_sign : (s : Sign) → is_same_sign s s ≡ true
is_own_sign Minus = refl
is_own_sign Zero = refl
is_own_sign Plus = refl

is_equal : (s t : Sign) → t ≡ s → is_same_sign s t ≡ true
is_equal s t e = ap (is_same_sign s) e ∙ is_own_sign s

pub can_be_sum : (s t r : Sign) → CanSum s t r → can_sum s t r ≡ true
can_be_sum Zero t r h = is_equal t r h
can_be_sum Plus Zero r h = is_equal Plus r h
can_be_sum Plus Plus r h = is_equal Plus r h
can_be_sum Plus Minus r h = refl
can_be_sum Minus Zero r h = is_equal Minus r h
can_be_sum Minus Minus r h = is_equal Minus r h
can_be_sum Minus Plus r h = refl

pub sum_zero : (s r : Sign) → CanSum s Zero r → r ≡ s
sum_zero Minus r h = h
sum_zero Zero r h = h
sum_zero Plus r h = h

-- symbols
zeros_sign : (n : ℕ) (p : Values) → sign_of (power_product (replicate n 0) p) ≡ Plus
zeros_sign zero p = refl
zeros_sign (suc n) p = sign_powers 0 (replicate n 0) p ∙ zeros_sign n (rest_of p)

one_sign : (k n : ℕ) (p : Values) → k < n → sign_of (power_product (set (replicate n 0) k 1) p) ≡ sign_of (symbol_at k p)
one_sign k zero p h = absurd (omega (arith, h))
one_sign zero (suc n) p h =
    sign_powers 1 (replicate n 0) p ∙ ap (product_sign (sign_of (first_of p))) (zeros_sign n (rest_of p)) ∙ product_plus (sign_of (first_of p))
one_sign (suc k) (suc n) p h = sign_powers 0 (set (replicate n 0) k 1) p ∙ one_sign k n (rest_of p) (omega (arith, h))

-- a polynomial that is one term
pub lone_term : (t : Monomial) (p : Values) → sign_at (t ∷ []) p ≡ sign_of (term_at t p)
lone_term t p = sum_zero (sign_of (term_at t p)) (sign_at (t ∷ []) p) (sign_sum (term_at t p) (whole (pos 0)))

pub symbol_sign : (k : ℕ) (p : Values) → k < 32 → sign_at (symbol_of k) p ≡ sign_of (symbol_at k p)
symbol_sign k p h =
    lone_term (monomial (pos 1) (set (replicate 32 0) k 1)) p
    ∙ sign_product (whole (pos 1)) (power_product (set (replicate 32 0) k 1) p)
    ∙ one_sign k 32 p h
