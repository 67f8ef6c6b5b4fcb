-- Polynomials over a positive whole number, in lowest form. Source: textbook.
use Rattle.std.specs.Prelude.{◌≡◌, ℕ, ◌-◌, ◌*◌, ◌<◌, ◌≤◌, ◌⊎◌, List, pos}
use Prim.Native.Nat.{◌∣◌}
use Rattle.theory_meaning.specs.Fraction.{Fraction, product_of as fraction_product}
use Rattle.theory_meaning.specs.Limits.{bound}
use Rattle.theory_polynomial.specs.Polynomial.{Monomial, scaled, sum_of, difference_of, product_of, AreSame, DividesAll, IsPolynomial, IsWithinLimits, PassesLimit}
use Rattle.theory_polynomial.specs.PolynomialValue.{Values, polynomial_at}

-- a sum of terms over a whole number
pub record Quotient : Type 0 where
  pub top : List Monomial
  pub below : ℕ

-- the same by cross products
abbrev pub IsSameQuotient : Quotient → Quotient → Type 0
IsSameQuotient q r = AreSame (scaled (pos r.below) q.top) (scaled (pos q.below) r.top)

-- a polynomial over a positive number, where no number but 1 divides that number and all coefficients
pub record IsLowest (q : Quotient) : Type 0 where
  pub ordered : IsPolynomial q.top
  pub positive : 0 < q.below
  pub lowest : (d : ℕ) → d ∣ q.below → DividesAll d q.top → d ≡ 1

-- the lowest form of a quotient
pub record IsLowestOf (q r : Quotient) : Type 0 where
  pub lowest : IsLowest r
  pub same : IsSameQuotient r q

-- the polynomial passes a limit, or the number below passes the bound
abbrev pub QuotientPasses : Quotient → Type 0
QuotientPasses q = PassesLimit q.top ⊎ (bound < q.below)

-- the polynomial is within the limits, and the number below within the bound
pub record QuotientIsWithin (q : Quotient) : Type 0 where
  pub top : IsWithinLimits q.top
  pub below : q.below ≤ bound

-- the lowest form passes a limit
abbrev pub IsQuotientBeyond : Quotient → Type 0
IsQuotientBeyond q = (r : Quotient) × IsLowestOf q r × QuotientPasses r

-- the sum, over the product of the numbers below
abbrev pub sum_of_quotients : Quotient → Quotient → Quotient
sum_of_quotients q r = record { top = sum_of (scaled (pos r.below) q.top) (scaled (pos q.below) r.top); below = q.below * r.below }

-- the difference, likewise
abbrev pub difference_of_quotients : Quotient → Quotient → Quotient
difference_of_quotients q r =
    record { top = difference_of (scaled (pos r.below) q.top) (scaled (pos q.below) r.top); below = q.below * r.below }

-- the product of the polynomials over that of the numbers below
abbrev pub product_of_quotients : Quotient → Quotient → Quotient
product_of_quotients q r = record { top = product_of q.top r.top; below = q.below * r.below }

-- the value at a point
abbrev pub quotient_at : Quotient → Values → Fraction
quotient_at q p = fraction_product (polynomial_at q.top p) (record { num = pos 1; less = q.below - 1 })
