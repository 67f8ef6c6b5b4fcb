-- The value of a polynomial at a point, and a polynomial at one symbol's value.
-- Source: textbook; the written steps of restriction are this project's own (Horner's scheme with a cleared denominator).
use Rattle.std.specs.Prelude.{◌↔◌, ℕ, zero, suc, ◌-◌, ◌^◌, ◌<◌, ◌≤◌, ◌⊎◌, ◌==◌, List, [], ◌∷◌, map, filter, slice_set, pos}
use Rattle.theory_meaning.specs.Fraction.{Fraction, den, whole, IsSame, HasSign, sum_of as fraction_sum, product_of as fraction_product, power_of}
use Rattle.theory_meaning.specs.Limits.{bound}
use Rattle.theory_meaning.specs.declared.words.Sign.{Sign}
use Rattle.theory_polynomial.specs.Polynomial.{Monomial, monomial, exponent_of, degree_in, scaled, sum_of, IsPrimitiveOf, IsBeyond}

-- a point: the value of symbol k at place k, 0 past the last
abbrev pub Values : Type 0
Values = List Fraction

-- the value of symbol 0
abbrev pub first_of : Values → Fraction
first_of [] = whole (pos 0)
first_of (q ∷ p) = q

-- the values of the symbols behind it
abbrev pub rest_of : Values → Values
rest_of [] = []
rest_of (q ∷ p) = p

-- the value of a symbol
abbrev pub symbol_at : ℕ → Values → Fraction
symbol_at zero p = first_of p
symbol_at (suc k) p = symbol_at k (rest_of p)

-- the product of the powers of the symbols' values
abbrev pub power_product : List ℕ → Values → Fraction
power_product [] p = whole (pos 1)
power_product (n ∷ e) p = fraction_product (power_of (first_of p) n) (power_product e (rest_of p))

-- the value of a term
abbrev pub term_at : Monomial → Values → Fraction
term_at t p = fraction_product (whole t.coefficient) (power_product t.powers p)

-- the value of a sum of terms
abbrev pub polynomial_at : List Monomial → Values → Fraction
polynomial_at [] p = whole (pos 0)
polynomial_at (t ∷ ts) p = fraction_sum (term_at t p) (polynomial_at ts p)

-- the sign of the value
abbrev pub HasSignAt : Values → List Monomial → Sign → Type 0
HasSignAt p ts s = HasSign (polynomial_at ts p) s

-- at every point the two have the same sign
abbrev pub HaveSameSign : List Monomial → List Monomial → Type 0
HaveSameSign ts us = (p : Values) (s : Sign) → HasSignAt p ts s ↔ HasSignAt p us s

-- the point gives this value to the symbol
abbrev pub GivesValue : ℕ → Fraction → Values → Type 0
GivesValue x q p = IsSame (symbol_at x p) q

-- the terms with exponent k of x, without x
abbrev pub part_of : ℕ → ℕ → List Monomial → List Monomial
part_of x k ts = map (λ t. monomial t.coefficient (slice_set t.powers x 0)) (filter (λ t. exponent_of x t == k) ts)

-- the slope of a polynomial that is linear in the symbol
abbrev pub slope_in : ℕ → List Monomial → List Monomial
slope_in x P = part_of x 1 P

-- the base of a polynomial that is linear in the symbol: its part without the symbol
abbrev pub base_in : ℕ → List Monomial → List Monomial
base_in x P = part_of x 0 P

-- the i-th step of a restriction: the step before times the numerator, and the next part times a power of the denominator
abbrev pub restriction_step : ℕ → Fraction → List Monomial → ℕ → List Monomial
restriction_step x q ts zero = part_of x (degree_in x ts) ts
restriction_step x q ts (suc i) =
    sum_of (scaled q.num (restriction_step x q ts i)) (scaled (pos (den q ^ suc i)) (part_of x (degree_in x ts - suc i) ts))

-- the last step, divided by its content
abbrev pub IsRestriction : ℕ → Fraction → List Monomial → List Monomial → Type 0
IsRestriction x q ts r = IsPrimitiveOf (restriction_step x q ts (degree_in x ts)) r

-- a power of the denominator passes the bound, or a step passes a limit
abbrev pub IsWideRestriction : ℕ → Fraction → List Monomial → Type 0
IsWideRestriction x q ts =
    (i : ℕ) × (i ≤ degree_in x ts) × ((bound < den q ^ i) ⊎ IsBeyond (restriction_step x q ts i))
