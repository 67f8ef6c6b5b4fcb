-- Expressions as fractions of polynomials, and the operations on them.
-- Source: textbook; which products are formed, and in which order, is this project's own.
use Rattle.std.specs.Prelude.{◌≡◌, ◌≢◌, ℕ, zero, suc, ◌⊎◌, Bool, List, [], pos, neg_ℤ, if◌then◌else◌}
use Rattle.theory_polynomial.specs.Polynomial.{Monomial, IsPolynomialOf, IsCanonicalOf, product_of, constant_of}
use Rattle.theory_polynomial.specs.RationalPolynomial.{Quotient, IsLowestOf, difference_of_quotients, product_of_quotients}

-- a polynomial with rational coefficients, over a polynomial
pub record RationalFunction : Type 0 where
  pub top : Quotient
  pub bottom : List Monomial

-- a sum of terms over a number
abbrev pub over : List Monomial → ℕ → Quotient
over ts b = record { top = ts; below = b }

-- the polynomial 1
abbrev pub one : List Monomial
one = constant_of (pos 1)

-- a polynomial over a number, times a polynomial
abbrev pub times : Quotient → List Monomial → Quotient
times q P = product_of_quotients q (over P 1)

-- the opposite as an operation on the one that is taken from 0
abbrev pub opposite_of_quotient : Quotient → Quotient
opposite_of_quotient q = difference_of_quotients (over [] 1) q

-- a whole number d over a content g, with the sign turned or not
abbrev pub scale_of : Bool → ℕ → ℕ → Quotient
scale_of turned d g = over (constant_of (if turned then neg_ℤ (pos d) else pos d)) g

-- the lowest form of a top, over the polynomial of a bottom
pub record IsFractionOf (top : Quotient) (bottom : List Monomial) (r : RationalFunction) : Type 0 where
  pub top_is : IsLowestOf top r.top
  pub bottom_is : IsPolynomialOf bottom r.bottom

-- a sum or difference over the product of two bottoms: each top times the other bottom
pub record IsOverBoth (op : Quotient → Quotient → Quotient) (a b r : RationalFunction) : Type 0 where
  pub apart : a.bottom ≢ b.bottom
  pub first : Quotient
  pub second : Quotient
  pub first_is : IsLowestOf (times a.top b.bottom) first
  pub second_is : IsLowestOf (times b.top a.bottom) second
  pub whole : IsFractionOf (op first second) (product_of a.bottom b.bottom) r

-- a sum or difference over a common bottom
pub record IsOverCommon (op : Quotient → Quotient → Quotient) (a b r : RationalFunction) : Type 0 where
  pub common : a.bottom ≡ b.bottom
  pub whole : IsFractionOf (op a.top b.top) a.bottom r

-- a sum or difference: equal bottoms are kept, and others multiplied
abbrev pub IsJoinOf : (Quotient → Quotient → Quotient) → RationalFunction → RationalFunction → RationalFunction → Type 0
IsJoinOf op a b r = IsOverCommon op a b r ⊎ IsOverBoth op a b r

-- the opposite: that of the top
abbrev pub IsOppositeOf : RationalFunction → RationalFunction → Type 0
IsOppositeOf a r = IsFractionOf (opposite_of_quotient a.top) a.bottom r

-- the product of the tops over that of the bottoms
abbrev pub IsProductOf : RationalFunction → RationalFunction → RationalFunction → Type 0
IsProductOf a b r = IsFractionOf (product_of_quotients a.top b.top) (product_of a.bottom b.bottom) r

-- a power, one factor after the other
abbrev pub IsPowerOf : RationalFunction → ℕ → RationalFunction → Type 0
IsPowerOf a zero r = IsFractionOf (over one 1) one r
IsPowerOf a (suc k) r = (b : RationalFunction) × IsPowerOf a k b × IsProductOf b a r

-- a over b, where the top of b is a whole number c times its canonical form, over d:
-- the top of a times d over c, and then times the bottom of b; the bottom of a times the canonical form
pub record IsOver (a b r : RationalFunction) : Type 0 where
  pub turned : Bool
  pub poly : List Monomial
  pub form : IsCanonicalOf b.top.top turned poly
  pub scaled : Quotient
  pub scaled_is : IsLowestOf (product_of_quotients a.top (scale_of turned b.top.below form.content)) scaled
  pub whole : IsFractionOf (times scaled b.bottom) (product_of a.bottom poly) r

-- 0 over 1, where the top of the divisor is 0
pub record IsOverZero (b r : RationalFunction) : Type 0 where
  pub none : b.top.top ≡ []
  pub whole : IsFractionOf (over [] 1) one r

-- the quotient
abbrev pub IsQuotientOf : RationalFunction → RationalFunction → RationalFunction → Type 0
IsQuotientOf a b r = IsOverZero b r ⊎ IsOver a b r
