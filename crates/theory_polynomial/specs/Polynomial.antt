-- What is said of polynomials: degrees, limits, contents and the canonical form.
-- Source: textbook; the limits are this project's own.
use Rattle.std.specs.Prelude.{◌≡◌, ℕ, ◌+◌, ◌<◌, ◌≤◌, ◌⊎◌, max, List, [], ◌∷◌, length, slice_index, if◌then◌else◌, Bool, pos, neg_ℤ, unsigned_abs}
use Prim.Native.Nat.{◌∣◌}
use Rattle.theory_meaning.specs.Limits.{bound}
pub use Rattle.theory_polynomial.specs.Terms.{Monomial, monomial, coefficient_at, AreSame, Precedes, IsTerm, PrecedesFirst, IsPolynomial, IsPolynomialOf, scaled, powers_of_product, product_of_two, multiple_of, sum_of, difference_of, product_of, cross_of, no_powers, constant_of, symbol_of}

-- the exponent of a symbol
abbrev pub exponent_of : ℕ → Monomial → ℕ
exponent_of x t = slice_index t.powers x

-- the greatest exponent of a symbol, 0 for no term
abbrev pub degree_in : ℕ → List Monomial → ℕ
degree_in x [] = 0
degree_in x (t ∷ ts) = max (exponent_of x t) (degree_in x ts)

-- the symbol does not occur
abbrev pub IsFreeOf : ℕ → List Monomial → Type 0
IsFreeOf x ts = degree_in x ts ≡ 0

-- the symbol occurs with exponent 1 at most
abbrev pub IsLinearIn : ℕ → List Monomial → Type 0
IsLinearIn x ts = degree_in x ts ≤ 1

-- slope and base of a polynomial that is linear in a symbol
pub record IsSplit (x : ℕ) (ts slope base : List Monomial) : Type 0 where
  pub slope_free : IsFreeOf x slope
  pub base_free : IsFreeOf x base
  pub same : AreSame ts (sum_of (product_of slope (symbol_of x)) base)

-- the greatest absolute value of a coefficient, 0 for none
abbrev pub height_of : List Monomial → ℕ
height_of [] = 0
height_of (t ∷ ts) = max (unsigned_abs t.coefficient) (height_of ts)

-- the greatest of some exponents, 0 for none
abbrev pub greatest_of : List ℕ → ℕ
greatest_of [] = 0
greatest_of (n ∷ e) = max n (greatest_of e)

-- the greatest exponent of all terms, 0 for none
abbrev pub greatest_exponent_of : List Monomial → ℕ
greatest_exponent_of [] = 0
greatest_exponent_of (t ∷ ts) = max (greatest_of t.powers) (greatest_exponent_of ts)

-- at most 128 terms, exponents at most 15, coefficients at most 2^58 in absolute value
pub record IsWithinLimits (r : List Monomial) : Type 0 where
  pub terms : length r ≤ 128
  pub exponents : greatest_exponent_of r ≤ 15
  pub coefficients : height_of r ≤ bound

-- one of these limits is passed
abbrev pub PassesLimit : List Monomial → Type 0
PassesLimit r = (128 < length r) ⊎ ((15 < greatest_exponent_of r) ⊎ (bound < height_of r))

-- the polynomial of a sum of terms passes a limit
abbrev pub IsBeyond : List Monomial → Type 0
IsBeyond ts = (r : List Monomial) × IsPolynomialOf ts r × PassesLimit r

-- a number divides every coefficient
abbrev pub DividesAll : ℕ → List Monomial → Type 0
DividesAll d ts = (e : List ℕ) → d ∣ unsigned_abs (coefficient_at ts e)

-- the greatest common divisor of the coefficients, 1 where all are 0
pub record IsContent (ts : List Monomial) (g : ℕ) : Type 0 where
  pub positive : 0 < g
  pub divides : DividesAll g ts
  pub greatest : ¬ AreSame ts [] → (d : ℕ) → DividesAll d ts → d ∣ g
  pub zero : AreSame ts [] → g ≡ 1

-- the polynomial of a sum of terms, divided by its content
abbrev pub IsPrimitiveOf : List Monomial → List Monomial → Type 0
IsPrimitiveOf ts r = (g : ℕ) × IsContent ts g × IsPolynomial r × AreSame (scaled (pos g) r) ts

-- what is left after that division passes a limit
abbrev pub IsBeyondDivided : List Monomial → Type 0
IsBeyondDivided ts = (r : List Monomial) × IsPrimitiveOf ts r × PassesLimit r

-- the first coefficient is above 0
abbrev pub HasPositiveFirst : List Monomial → Type 0
HasPositiveFirst [] = ⊥
HasPositiveFirst (t ∷ ts) = (n : ℕ) × (t.coefficient ≡ pos (n + 1))

-- content 1 and a positive first coefficient
pub record IsCanonical (r : List Monomial) : Type 0 where
  pub ordered : IsPolynomial r
  pub primitive : IsContent r 1
  pub first : HasPositiveFirst r

-- a polynomial is its content times its canonical form, with the sign turned or not
pub record IsCanonicalOf (ts : List Monomial) (turned : Bool) (r : List Monomial) : Type 0 where
  pub canonical : IsCanonical r
  pub content : ℕ
  pub is_content : IsContent ts content
  pub same : AreSame ts (scaled (if turned then neg_ℤ (pos content) else pos content) r)
