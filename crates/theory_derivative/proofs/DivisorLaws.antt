-- Where no divisor of an expression is 0, none of its written derivative is.
use Rattle.std.proofs.Common.{◌≡◌, ℕ, zero, suc, ℤ, pos, negsuc, ◌*ℤ◌, Bool, true, false, not, ◌&&◌, ◌||◌, if◌then◌else◌, List, [], ◌∷◌, ◌++◌, Option, Some, None, refl, sym, ap, ◌∙◌, arith, ⊎_elim}
use Rattle.std.proofs.lemmas.Bool.{and_parts, and_from, cases_Bool, not-true, not_from_false, both_ways}
use Rattle.std.proofs.lemmas.Int.{ints}
use Rattle.std.specs.Str.{bytes_eq}
use Rattle.theory_meaning.specs.Fraction.{Fraction, whole, same, IsSame, product_of}
use Rattle.theory_meaning.specs.Point.{Name, Point}
use Rattle.theory_meaning.specs.Text.{Numbered}
use Rattle.theory_meaning.specs.Tree.{Expr, number, symbol, sum, difference, opposite, product, power, quotient}
use Rattle.theory_meaning.specs.Truth.{value_of, are_nonzero}
use Rattle.theory_meaning.specs.Declarations.{Declared, variable, parameter, function_of, declared_in}
use Rattle.theory_meaning.specs.Divisors.{divisors_of_expr}
use Rattle.theory_meaning.specs.Slope.{slope_name}
use Rattle.theory_derivative.specs.Derivative.{counted, is_number, plus, neg, minus, times, over, raised, of_power, of_plain, of_argument, of_arguments, of_name, derivative}
use Rattle.theory_meaning.proofs.OrderLaws.{fact_from_same, same_from_fact}
use Rattle.theory_meaning.proofs.FractionLaws.{Equals, back, along}
use Rattle.theory_derivative.proofs.WrittenValues.{chosen, times_value}

-- no divisor in an expression is 0
pub IsSafe : Point → Expr → Type 0
IsSafe p e = are_nonzero (divisors_of_expr e) p ≡ true

-- of two lists
pub nonzero-append : (us vs : List Expr) (p : Point) → are_nonzero (us ++ vs) p ≡ (are_nonzero us p && are_nonzero vs p)
nonzero-append [] vs p = refl
nonzero-append (u ∷ us) vs p =
    ap (λ (t : Bool). not (same (value_of u p) (whole (pos 0))) && t) (nonzero-append us vs p)
    ∙ and_assoc (not (same (value_of u p) (whole (pos 0)))) (are_nonzero us p) (are_nonzero vs p)
  where
    and_assoc : (a b c : Bool) → (a && (b && c)) ≡ ((a && b) && c)
    and_assoc true b c = refl
    and_assoc false b c = refl

pub safe_parts : (us vs : List Expr) (p : Point) → are_nonzero (us ++ vs) p ≡ true → (are_nonzero us p ≡ true) × (are_nonzero vs p ≡ true)
safe_parts us vs p h = and_parts (are_nonzero us p) (are_nonzero vs p) (sym (nonzero-append us vs p) ∙ h)

pub safe_both : (us vs : List Expr) (p : Point) → are_nonzero us p ≡ true → are_nonzero vs p ≡ true → are_nonzero (us ++ vs) p ≡ true
safe_both us vs p h k = nonzero-append us vs p ∙ and_from (are_nonzero us p) (are_nonzero vs p) h k

-- the written operations keep it
plus_safe : (a b : Expr) (p : Point) → IsSafe p a → IsSafe p b → IsSafe p (plus a b)
unfolding IsSafe
plus_safe a b p h k =
    chosen (is_number 0 a) (IsSafe p) b (if is_number 0 b then a else sum a b) (λ _. k)
    (λ _. chosen (is_number 0 b) (IsSafe p) a (sum a b) (λ _. h) (λ _. safe_both (divisors_of_expr a) (divisors_of_expr b) p h k))

neg_safe : (a : Expr) (p : Point) → IsSafe p a → IsSafe p (neg a)
unfolding IsSafe
neg_safe a p h = chosen (is_number 0 a) (IsSafe p) (counted 0) (opposite a) (λ _. refl) (λ _. h)

minus_safe : (a b : Expr) (p : Point) → IsSafe p a → IsSafe p b → IsSafe p (minus a b)
unfolding IsSafe
minus_safe a b p h k =
    chosen (is_number 0 b) (IsSafe p) a (if is_number 0 a then neg b else difference a b) (λ _. h)
    (λ _. chosen (is_number 0 a) (IsSafe p) (neg b) (difference a b) (λ _. neg_safe b p k)
    (λ _. safe_both (divisors_of_expr a) (divisors_of_expr b) p h k))

times_safe : (a b : Expr) (p : Point) → IsSafe p a → IsSafe p b → IsSafe p (times a b)
unfolding IsSafe
times_safe a b p h k =
    chosen (is_number 0 a || is_number 0 b) (IsSafe p) (counted 0) (if is_number 1 a then b else if is_number 1 b then a else product a b) (λ _. refl)
    (λ _. chosen (is_number 1 a) (IsSafe p) b (if is_number 1 b then a else product a b) (λ _. k)
    (λ _. chosen (is_number 1 b) (IsSafe p) a (product a b) (λ _. h)
    (λ _. safe_both (divisors_of_expr a) (divisors_of_expr b) p h k)))

over_safe : (a b : Expr) (p : Point) → IsSafe p a → IsSafe p b → same (value_of b p) (whole (pos 0)) ≡ false → IsSafe p (over a b)
unfolding IsSafe
over_safe a b p h k apart =
    chosen (is_number 0 a) (IsSafe p) (counted 0) (quotient a b) (λ _. refl)
    (λ _. safe_both (divisors_of_expr a) (b ∷ divisors_of_expr b) p h
    (and_from (not (same (value_of b p) (whole (pos 0)))) (are_nonzero (divisors_of_expr b) p) (not_from_false (same (value_of b p) (whole (pos 0))) apart) k))

-- a square is 0 only where its root is
square_zero : (n : ℤ) (k : ℕ) → n *ℤ n ≡ pos 0 → n ≡ pos 0
square_zero (pos zero) k e = refl
square_zero (pos (suc n)) k e = absurd (omega (arith, ints, e))
square_zero (negsuc n) k e = absurd (omega (arith, ints, e))

top_zero : (q : Fraction) → IsSame q (whole (pos 0)) → q.num ≡ pos 0
top_zero q e = omega (arith, ints, e)

zero_top : (q : Fraction) → q.num ≡ pos 0 → IsSame q (whole (pos 0))
zero_top q e = omega (arith, ints, e)

square_apart : (v : Expr) (p : Point) → same (value_of v p) (whole (pos 0)) ≡ false → same (value_of (times v v) p) (whole (pos 0)) ≡ false
square_apart v p h =
    ⊎_elim
    (λ e.
    let zero : Equals (product_of (value_of v p) (value_of v p)) (whole (pos 0)) =
    along (back (times_value v v p)) (record { is = fact_from_same (value_of (times v v) p) (whole (pos 0)) e }) in
    absurd (both_ways (same (value_of v p) (whole (pos 0))) h
    (same_from_fact (value_of v p) (whole (pos 0))
    (zero_top (value_of v p) (square_zero (value_of v p).num 0 (top_zero (product_of (value_of v p) (value_of v p)) zero.is))))))
    (λ e. e) (cases_Bool (same (value_of (times v v) p) (whole (pos 0))))

-- names
plain_safe : (d : Option Declared) (t x : Name) (p : Point) → IsSafe p (of_plain d t x)
unfolding IsSafe
plain_safe (Some variable) t x p = refl
plain_safe (Some parameter) t x p = chosen (bytes_eq x t) (IsSafe p) (counted 1) (counted 0) (λ _. refl) (λ _. refl)
plain_safe (Some (function_of us)) t x p = refl
plain_safe None t x p = refl

symbol_safe : (x : Name) (p : Point) → IsSafe p (symbol x)
unfolding IsSafe
symbol_safe x p = refl

counted_safe : (n : ℕ) (p : Point) → IsSafe p (counted n)
unfolding IsSafe
counted_safe n p = refl

arguments_safe : (lines : List Numbered) (t f : Name) (before : Expr) (us : List Name) (p : Point) → IsSafe p before → IsSafe p (of_arguments lines t f before us)
arguments_safe lines t f before [] p h = h
arguments_safe lines t f before (u ∷ us) p h =
    let term : Expr = of_argument lines t f u in
    arguments_safe lines t f (plus before term) us p
    (plus_safe before term p h
    (times_safe (symbol (slope_name f u)) (of_plain (declared_in lines u) t u) p (symbol_safe (slope_name f u) p) (plain_safe (declared_in lines u) t u p)))

name_safe : (d : Option Declared) (lines : List Numbered) (t x : Name) (p : Point) → IsSafe p (of_name d lines t x)
name_safe (Some (function_of us)) lines t x p = arguments_safe lines t x (counted 0) us p (counted_safe 0 p)
name_safe (Some variable) lines t x p = plain_safe (Some variable) t x p
name_safe (Some parameter) lines t x p = plain_safe (Some parameter) t x p
name_safe None lines t x p = counted_safe 0 p

raised_safe : (u : Expr) (k : ℕ) (p : Point) → IsSafe p u → IsSafe p (raised u k)
unfolding IsSafe
raised_safe u zero p h = h
raised_safe u (suc k) p h = h

power_safe : (u : Expr) (k : ℕ) (du : Expr) (p : Point) → IsSafe p u → IsSafe p du → IsSafe p (of_power u k du)
power_safe u zero du p h k = counted_safe 0 p
power_safe u (suc zero) du p h k = k
power_safe u (suc (suc n)) du p h k =
    times_safe (times (counted (suc (suc n))) (raised u n)) du p
    (times_safe (counted (suc (suc n))) (raised u n) p (counted_safe (suc (suc n)) p) (raised_safe u n p h)) k

-- the law
pub safe : (lines : List Numbered) (t : Name) (e : Expr) (p : Point) → IsSafe p e → IsSafe p (derivative lines t e)
unfolding IsSafe
safe lines t (number q) p h = refl
safe lines t (symbol x) p h = name_safe (declared_in lines x) lines t x p
safe lines t (sum u v) p h =
    let parts = safe_parts (divisors_of_expr u) (divisors_of_expr v) p h in
    plus_safe (derivative lines t u) (derivative lines t v) p (safe lines t u p parts.0) (safe lines t v p parts.1)
safe lines t (difference u v) p h =
    let parts = safe_parts (divisors_of_expr u) (divisors_of_expr v) p h in
    minus_safe (derivative lines t u) (derivative lines t v) p (safe lines t u p parts.0) (safe lines t v p parts.1)
safe lines t (opposite u) p h = neg_safe (derivative lines t u) p (safe lines t u p h)
safe lines t (product u v) p h =
    let parts = safe_parts (divisors_of_expr u) (divisors_of_expr v) p h in
    plus_safe (times (derivative lines t u) v) (times u (derivative lines t v)) p
    (times_safe (derivative lines t u) v p (safe lines t u p parts.0) parts.1) (times_safe u (derivative lines t v) p parts.0 (safe lines t v p parts.1))
safe lines t (power u k) p h = power_safe u k (derivative lines t u) p h (safe lines t u p h)
safe lines t (quotient u v) p h =
    let parts = safe_parts (divisors_of_expr u) (v ∷ divisors_of_expr v) p h in
    let rest = and_parts (not (same (value_of v p) (whole (pos 0)))) (are_nonzero (divisors_of_expr v) p) parts.1 in
    over_safe (minus (times (derivative lines t u) v) (times u (derivative lines t v))) (times v v) p
    (minus_safe (times (derivative lines t u) v) (times u (derivative lines t v)) p
    (times_safe (derivative lines t u) v p (safe lines t u p parts.0) rest.1) (times_safe u (derivative lines t v) p parts.0 (safe lines t v p rest.1)))
    (times_safe v v p rest.1 rest.1)
    (square_apart v p (not-true (same (value_of v p) (whole (pos 0))) rest.0))

pub derivatives_keep_divisors : (lines : List Numbered) (t : Name) (e : Expr) (p : Point)
    → are_nonzero (divisors_of_expr e) p ≡ true → are_nonzero (divisors_of_expr (derivative lines t e)) p ≡ true
unfolding IsSafe
derivatives_keep_divisors lines t e p h = safe lines t e p h
