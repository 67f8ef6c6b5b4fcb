-- What is kept of a polynomial and of a quotient, and what of terms on the way.
use Rattle.std.specs.Prelude.{◌≡◌, ℕ, ◌<◌, ◌≤◌, ◌⊎◌, ℤ, ◌*ℤ◌, List, [], ◌∷◌, Bool, if◌then◌else◌, pos, negsuc, unsigned_abs}
use Prim.Native.Nat.{◌∣◌}
use Rattle.theory_meaning.specs.Fraction.{Fraction, den}
use Rattle.theory_meaning.specs.Limits.{bound}
use Rattle.theory_polynomial.specs.Polynomial.{Monomial, IsTerm, IsPolynomial, IsPolynomialOf, IsWithinLimits, IsContent, IsBeyond, scaled, sum_of, height_of, greatest_of}
use Rattle.theory_polynomial.specs.RationalPolynomial.{Quotient, IsLowest, QuotientIsWithin}
use Rattle.theory_poly.specs.Hashes.{hash_of}

-- a polynomial within the limits
pub record IsKept (ts : List Monomial) : Type 0 where
  pub ordered : IsPolynomial ts
  pub within : IsWithinLimits ts

-- a polynomial within the limits, and its hash
pub record IsKeptWith (ts : List Monomial) (hash : ℕ) : Type 0 where
  pub kept : IsKept ts
  pub hashed : hash ≡ hash_of ts

-- the polynomial of a sum of terms, with coefficients of at most this absolute value
pub record IsGathered (ts : List Monomial) (most : ℕ) (r : List Monomial) : Type 0 where
  pub ordered : IsPolynomialOf ts r
  pub height : height_of r ≤ most

-- a term within the limits
pub record IsKeptTerm (t : Monomial) : Type 0 where
  pub term : IsTerm t
  pub exponents : greatest_of t.powers ≤ 15
  pub coefficient : unsigned_abs t.coefficient ≤ bound

-- the number divides the coefficient of each term
abbrev pub EachDivided : ℕ → List Monomial → Type 0
EachDivided d [] = Unit {0}
EachDivided d (t ∷ ts) = (d ∣ unsigned_abs t.coefficient) × EachDivided d ts

-- it does, and each that does divides it
pub record IsGreatestDivisor (ts : List Monomial) (g : ℕ) : Type 0 where
  pub divides : EachDivided g ts
  pub greatest : (d : ℕ) → EachDivided d ts → d ∣ g

-- the terms are their content times these, one by one
pub record IsPrimitiveForm (ts r : List Monomial) : Type 0 where
  pub content : ℕ
  pub is_content : IsContent ts content
  pub times : scaled (pos content) r ≡ ts

-- the terms, turned or not, are their content times these, one by one
pub record IsSignedForm (turned : Bool) (ts r : List Monomial) : Type 0 where
  pub content : ℕ
  pub is_content : IsContent (scaled (if turned then negsuc 0 else pos 1) ts) content
  pub times : scaled (pos content) r ≡ scaled (if turned then negsuc 0 else pos 1) ts

-- the next step of a restriction, and the power of the denominator that belongs to it
pub record IsNextStep (q : Fraction) (sum : List Monomial) (power : ℤ) (next r : List Monomial) (raised : ℤ) : Type 0 where
  pub polynomial : IsPolynomialOf (sum_of (scaled q.num sum) (scaled (power *ℤ pos (den q)) next)) r
  pub power_is : raised ≡ power *ℤ pos (den q)
  pub small : unsigned_abs raised ≤ bound

-- the power or the sum of the next step passes a limit
abbrev pub PassesInStep : Fraction → List Monomial → ℤ → List Monomial → Type 0
PassesInStep q sum power next =
    (bound < unsigned_abs (power *ℤ pos (den q))) ⊎ IsBeyond (sum_of (scaled q.num sum) (scaled (power *ℤ pos (den q)) next))

-- a number divides another and every coefficient, and each that does divides it
pub record IsGreatestWith (start : ℕ) (ts : List Monomial) (g : ℕ) : Type 0 where
  pub first : g ∣ start
  pub divides : EachDivided g ts
  pub greatest : (d : ℕ) → d ∣ start → EachDivided d ts → d ∣ g

-- a quotient in lowest form within the limits
pub record IsKeptQuotient (q : Quotient) : Type 0 where
  pub lowest : IsLowest q
  pub within : QuotientIsWithin q

-- the quotient with these parts
abbrev pub quotient_of : List Monomial → ℕ → Quotient
quotient_of ts b = record { top = ts; below = b }
