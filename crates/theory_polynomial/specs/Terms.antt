-- Sums of terms, their coefficients, and the operations on them. A list of terms stands for their sum, in any order
-- and with repeats; of all lists with the same coefficients one is in the fixed order and without zeros: the polynomial.
-- Source: textbook; the order of the terms is this project's own.
use Rattle.std.specs.Prelude.{◌≡◌, ◌≢◌, ℕ, ◌+◌, List, [], ◌∷◌, ◌++◌, length, map, replicate, slice_set, if◌then◌else◌, ℤ, pos, negsuc, ◌+ℤ◌, ◌*ℤ◌}
use Rattle.std.specs.Ordering.{nat_cmp}
use Rattle.std.specs.Cmp.Lexicographic.{slice_cmp}
use Rattle.std.specs.declared.cmp.Ordering.TheVariants.{Less}
use Rattle.std.specs.Str.{bytes_eq}
use Rattle.theory_polynomial.specs.declared.polynomial.Term.{Term}

-- a term over the whole numbers: the exponent of symbol k stands at place k
abbrev pub Monomial : Type 0
Monomial = Term ℤ

-- the term with this coefficient and these exponents
abbrev pub monomial : ℤ → List ℕ → Monomial
monomial c e = record { coefficient = c; powers = e }

-- the coefficient of a sum of terms at an exponent list
abbrev pub coefficient_at : List Monomial → List ℕ → ℤ
coefficient_at [] e = pos 0
coefficient_at (t ∷ ts) e = (if bytes_eq t.powers e then t.coefficient else pos 0) +ℤ coefficient_at ts e

-- two sums of terms are the same map from exponent lists to whole numbers
pub record AreSame (ts us : List Monomial) : Type 0 where
  pub at : (e : List ℕ) → coefficient_at ts e ≡ coefficient_at us e

-- at the first symbol where they differ, e has the greater exponent
abbrev pub Precedes : List ℕ → List ℕ → Type 0
Precedes e f = slice_cmp nat_cmp f e ≡ Less

-- an exponent list of 32 places with a number that isn't 0
pub record IsTerm (t : Monomial) : Type 0 where
  pub nonzero : t.coefficient ≢ pos 0
  pub places : length t.powers ≡ 32

-- the exponent list precedes the first of the terms
abbrev pub PrecedesFirst : List ℕ → List Monomial → Type 0
PrecedesFirst e [] = Unit {0}
PrecedesFirst e (t ∷ ts) = Precedes e t.powers

-- the terms are in the fixed order, each exponent list once and no coefficient 0
abbrev pub IsPolynomial : List Monomial → Type 0
IsPolynomial [] = Unit {0}
IsPolynomial (t ∷ ts) = IsTerm t × PrecedesFirst t.powers ts × IsPolynomial ts

-- the polynomial that has the coefficients of a sum of terms
pub record IsPolynomialOf (ts r : List Monomial) : Type 0 where
  pub ordered : IsPolynomial r
  pub same : AreSame r ts

-- a whole number times a sum of terms
abbrev pub scaled : ℤ → List Monomial → List Monomial
scaled n ts = map (λ t. monomial (n *ℤ t.coefficient) t.powers) ts

-- exponent lists of factors add up, place by place
abbrev pub powers_of_product : List ℕ → List ℕ → List ℕ
powers_of_product [] f = f
powers_of_product (m ∷ e) [] = m ∷ e
powers_of_product (m ∷ e) (n ∷ f) = (m + n) ∷ powers_of_product e f

-- a term times a term
abbrev pub product_of_two : Monomial → Monomial → Monomial
product_of_two t u = monomial (t.coefficient *ℤ u.coefficient) (powers_of_product t.powers u.powers)

-- a term times a sum of terms
abbrev pub multiple_of : Monomial → List Monomial → List Monomial
multiple_of t us = map (product_of_two t) us

-- the sum of sums of terms: the terms of both
abbrev pub sum_of : List Monomial → List Monomial → List Monomial
sum_of ts us = ts ++ us

-- the difference of sums of terms: the other with its signs turned
abbrev pub difference_of : List Monomial → List Monomial → List Monomial
difference_of ts us = ts ++ scaled (negsuc 0) us

-- their product: each term of one times each of the other
abbrev pub product_of : List Monomial → List Monomial → List Monomial
product_of [] us = []
product_of (t ∷ ts) us = multiple_of t us ++ product_of ts us

-- the difference of two products
abbrev pub cross_of : List Monomial → List Monomial → List Monomial → List Monomial → List Monomial
cross_of a b2 a2 b = difference_of (product_of a b2) (product_of a2 b)

-- no symbol occurs
abbrev pub no_powers : List ℕ
no_powers = replicate 32 0

-- a whole number as a sum of terms
abbrev pub constant_of : ℤ → List Monomial
constant_of c = monomial c no_powers ∷ []

-- a symbol as a sum of terms
abbrev pub symbol_of : ℕ → List Monomial
symbol_of x = monomial (pos 1) (slice_set no_powers x 1) ∷ []
