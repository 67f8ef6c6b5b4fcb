-- The common exponents of a polynomial's terms, and what is left of it without them. Source: textbook.
use Rattle.std.specs.Prelude.{ℕ, zero, suc, ◌-◌, min, Bool, not, ◌&&◌, if◌then◌else◌, List, [], ◌∷◌, map, Option, None, Some, pos, nat_eq, nat_le}
use Rattle.theory_polynomial.specs.Polynomial.{Monomial, monomial, multiple_of, degree_in}

-- the lesser exponents, place by place
abbrev pub least_powers : List ℕ → List ℕ → List ℕ
least_powers [] f = []
least_powers (m ∷ e) [] = []
least_powers (m ∷ e) (n ∷ f) = min m n ∷ least_powers e f

-- the common exponent of each symbol: its least one over all terms
abbrev pub common_powers : List Monomial → List ℕ
common_powers [] = []
common_powers (t ∷ []) = t.powers
common_powers (t ∷ u ∷ ts) = least_powers t.powers (common_powers (u ∷ ts))

-- exponents less others, place by place
abbrev pub powers_less : List ℕ → List ℕ → List ℕ
powers_less [] f = []
powers_less (m ∷ e) [] = m ∷ e
powers_less (m ∷ e) (n ∷ f) = (m - n) ∷ powers_less e f

-- a sum of terms divided by these powers
abbrev pub without_powers : List ℕ → List Monomial → List Monomial
without_powers e ts = map (λ t. monomial t.coefficient (powers_less t.powers e)) ts

-- these powers times a sum of terms
abbrev pub with_powers : List ℕ → List Monomial → List Monomial
with_powers e ts = multiple_of (monomial (pos 1) e) ts

-- 1 for an odd number, 0 for an even one
abbrev pub odd_part : ℕ → ℕ
odd_part zero = 0
odd_part (suc zero) = 1
odd_part (suc (suc n)) = odd_part n

-- the exponent is even, and not 0
abbrev pub is_square : ℕ → Bool
is_square n = nat_eq (odd_part n) 0 && not (nat_eq n 0)

-- the symbols with such an exponent, where the first exponent is that of symbol x
abbrev pub squares_from : ℕ → List ℕ → List ℕ
squares_from x [] = []
squares_from x (n ∷ e) = if is_square n then x ∷ squares_from (suc x) e else squares_from (suc x) e

-- the first symbol with the common exponent 1 and the degree 2 or more, likewise
abbrev pub crossing_from : ℕ → List ℕ → List Monomial → Option ℕ
crossing_from x [] ts = None
crossing_from x (n ∷ e) ts = if nat_eq n 1 && nat_le 2 (degree_in x ts) then Some x else crossing_from (suc x) e ts

-- the exponents, with 0 for the symbol
abbrev pub all_but : ℕ → List ℕ → List ℕ
all_but x [] = []
all_but zero (n ∷ e) = 0 ∷ e
all_but (suc x) (n ∷ e) = n ∷ all_but x e
