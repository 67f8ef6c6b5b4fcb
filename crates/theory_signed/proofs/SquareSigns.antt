-- The sign of common powers: zero where a square is, else that of the odd parts.
use Rattle.std.proofs.Common.{◌≡◌, ℕ, zero, suc, ◌+◌, Bool, true, false, not, List, [], ◌∷◌, refl, sym, ap, ap₂, ◌∙◌, arith}
use Rattle.std.specs.Prelude.{◌&&◌, ◌||◌, map, nat_eq, if◌then◌else◌}
use Rattle.theory_meaning.specs.declared.words.Sign.{Sign}
use Rattle.theory_meaning.specs.declared.words.Sign.TheVariants.{Minus, Zero, Plus}
use Rattle.theory_formula.specs.Signs.{sign_of, is_zero}
use Rattle.theory_polynomial.specs.PolynomialValue.{Values, first_of, rest_of, symbol_at, power_product}
use Rattle.theory_signed.specs.SignRules.{product_sign, power_sign}
use Rattle.theory_signed.specs.CommonPowers.{odd_part, is_square, squares_from}
use Rattle.theory_signed.proofs.SignsOfProducts.{sign_powers}

product_zero : (s : Sign) → product_sign s Zero ≡ Zero
product_zero Minus = refl
product_zero Zero = refl
product_zero Plus = refl

twice : (t s : Sign) → is_zero s ≡ false → product_sign (product_sign t s) s ≡ t
twice Minus Minus h = refl
twice Zero Minus h = refl
twice Plus Minus h = refl
twice t Zero h = absurd cc
twice Minus Plus h = refl
twice Zero Plus h = refl
twice Plus Plus h = refl

odd_power : (s : Sign) (n : ℕ) → is_zero s ≡ false → power_sign s n ≡ power_sign s (odd_part n)
odd_power s zero h = refl
odd_power s (suc zero) h = refl
odd_power s (suc (suc n)) h = twice (power_sign s n) s h ∙ odd_power s n h

zero_power : (n : ℕ) → nat_eq n 0 ≡ false → power_sign Zero n ≡ Zero
zero_power zero h = absurd cc
zero_power (suc n) h = product_zero (power_sign Zero n)

suc_differs : (n : ℕ) → nat_eq (suc n) 0 ≡ false
suc_differs n = grind arith

-- of a power that is no square
not_square : (n : ℕ) → is_square n ≡ false → power_sign Zero n ≡ power_sign Zero (odd_part n)
not_square zero h = refl
not_square (suc n) h =
    elim (nat_eq (odd_part (suc n)) 0) as (λ b. nat_eq (odd_part (suc n)) 0 ≡ b → b && not (nat_eq (suc n) 0) ≡ false
    → power_sign Zero (suc n) ≡ power_sign Zero (odd_part (suc n))) [
      | true ↦ λ e k. let no : true ≡ false = sym (ap not (suc_differs n)) ∙ k in absurd cc
      | false ↦ λ e k. product_zero (power_sign Zero n) ∙ sym (zero_power (odd_part (suc n)) e)
    ] refl h

is_square_nonzero : (n : ℕ) → is_square n ≡ true → nat_eq n 0 ≡ false
is_square_nonzero zero h = absurd cc
is_square_nonzero (suc n) h = suc_differs n

-- a power by whether it is a square of zero
power_by : (s : Sign) (n : ℕ) → power_sign s n ≡ (if is_square n && is_zero s then Zero else power_sign s (odd_part n))
power_by Minus n =
    elim (is_square n) as (λ b. power_sign Minus n ≡ (if b && false then Zero else power_sign Minus (odd_part n))) [
      | true ↦ odd_power Minus n refl
      | false ↦ odd_power Minus n refl
    ]
power_by Plus n =
    elim (is_square n) as (λ b. power_sign Plus n ≡ (if b && false then Zero else power_sign Plus (odd_part n))) [
      | true ↦ odd_power Plus n refl
      | false ↦ odd_power Plus n refl
    ]
power_by Zero n =
    elim (is_square n) as (λ b. is_square n ≡ b → power_sign Zero n ≡ (if b && true then Zero else power_sign Zero (odd_part n))) [
      | true ↦ λ e. zero_power n (is_square_nonzero n e)
      | false ↦ λ e. not_square n e
    ] refl

-- one of the symbols is zero at the point
abbrev pub some_zero : Values → List ℕ → Bool
some_zero p [] = false
some_zero p (x ∷ xs) = is_zero (sign_of (symbol_at x p)) || some_zero p xs

joined : (b z : Bool) (a c : Sign) → product_sign (if b then Zero else a) (if z then Zero else c) ≡ (if b || z then Zero else product_sign a c)
joined true z a c = refl
joined false true a c = product_zero a
joined false false a c = refl

-- a symbol in front
in_front : (p : Values) (x n : ℕ) (e : List ℕ) (s : Sign) → s ≡ sign_of (symbol_at x p)
    → some_zero p (squares_from x (n ∷ e)) ≡ (is_square n && is_zero s) || some_zero p (squares_from (suc x) e)
in_front p x n e s h =
    elim (is_square n) as (λ b. some_zero p (if b then x ∷ squares_from (suc x) e else squares_from (suc x) e)
    ≡ (b && is_zero s) || some_zero p (squares_from (suc x) e)) [
      | true ↦ ap (λ (t : Sign). is_zero t || some_zero p (squares_from (suc x) e)) (sym h)
      | false ↦ refl
    ]

shifted : (x k : ℕ) → x + suc k ≡ suc x + k
shifted x k = omega arith

at_once : (x : ℕ) → x + 0 ≡ x
at_once x = omega arith

pub square_sign : (p : Values) (x : ℕ) (e : List ℕ) (r : Values) → ((k : ℕ) → symbol_at k r ≡ symbol_at (x + k) p)
    → sign_of (power_product e r) ≡ (if some_zero p (squares_from x e) then Zero else sign_of (power_product (map odd_part e) r))
square_sign p x [] r h = refl
square_sign p x (n ∷ e) r h =
    let s : Sign = sign_of (first_of r) in
    let own : s ≡ sign_of (symbol_at x p) = ap sign_of (h 0 ∙ ap (λ (k : ℕ). symbol_at k p) (at_once x)) in
    let z : Bool = some_zero p (squares_from (suc x) e) in
    sign_powers n e r
    ∙ ap₂ product_sign (power_by s n)
    (square_sign p (suc x) e (rest_of r) (λ k. h (suc k) ∙ ap (λ (j : ℕ). symbol_at j p) (shifted x k)))
    ∙ joined (is_square n && is_zero s) z (power_sign s (odd_part n)) (sign_of (power_product (map odd_part e) (rest_of r)))
    ∙ ap₂ (λ (b : Bool) (t : Sign). if b then Zero else t) (sym (in_front p x n e s own)) (sym (sign_powers (odd_part n) (map odd_part e) r))
