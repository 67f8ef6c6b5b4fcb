-- When the polynomials on the way to a lowered formula pass a limit, and which names must be listed.
-- Source: this project's own.
use Rattle.std.specs.Prelude.{◌≡◌, ◌≢◌, ℕ, zero, suc, ◌<◌, ◌⊎◌, Bool, List, length}
use Rattle.theory_meaning.specs.Fraction.{den}
use Rattle.theory_meaning.specs.Point.{Name}
use Rattle.theory_polynomial.specs.Polynomial.{Monomial, IsBeyond, IsCanonicalOf, product_of, constant_of, symbol_of}
use Rattle.theory_meaning.specs.Tree.{Expr, number, symbol, sum, difference, opposite, product, power, quotient, Claim, Claims, always, never, atom, negation, conjunction, disjunction, implication, equivalence, none, more, claims_from}
use Rattle.theory_polynomial.specs.RationalPolynomial.{Quotient, IsLowestOf, IsQuotientBeyond, sum_of_quotients, difference_of_quotients, product_of_quotients}
use Rattle.theory_lowering.specs.RationalFunction.{RationalFunction, over, one, times, opposite_of_quotient, scale_of, IsPowerOf}
use Rattle.theory_lowering.specs.Lowered.{place_of, IsFormOf}

-- the lowest form of a top, or the polynomial of a bottom, passes a limit
abbrev pub IsBeyondFraction : Quotient → List Monomial → Type 0
IsBeyondFraction top bottom = IsQuotientBeyond top ⊎ IsBeyond bottom

-- a product of a top with the other bottom passes a limit, or the sum or difference of both, or the product of the bottoms
abbrev pub IsWideOverBoth : (Quotient → Quotient → Quotient) → RationalFunction → RationalFunction → Type 0
IsWideOverBoth op a b =
    (a.bottom ≢ b.bottom) × (IsQuotientBeyond (times a.top b.bottom) ⊎ (IsQuotientBeyond (times b.top a.bottom)
    ⊎ ((x : Quotient) × (y : Quotient) × IsLowestOf (times a.top b.bottom) x × IsLowestOf (times b.top a.bottom) y
    × IsBeyondFraction (op x y) (product_of a.bottom b.bottom))))

-- the sum or difference passes a limit
abbrev pub IsWideJoin : (Quotient → Quotient → Quotient) → RationalFunction → RationalFunction → Type 0
IsWideJoin op a b = ((a.bottom ≡ b.bottom) × IsBeyondFraction (op a.top b.top) a.bottom) ⊎ IsWideOverBoth op a b

-- the product passes a limit
abbrev pub IsWideProduct : RationalFunction → RationalFunction → Type 0
IsWideProduct a b = IsBeyondFraction (product_of_quotients a.top b.top) (product_of a.bottom b.bottom)

-- a power passes a limit, or a lower power
abbrev pub IsWidePower : RationalFunction → ℕ → Type 0
IsWidePower a zero = ⊥
IsWidePower a (suc k) = IsWidePower a k ⊎ ((b : RationalFunction) × IsPowerOf a k b × IsWideProduct b a)

-- the first product of the top passes a limit, or the second, or the product of the bottoms
pub record IsWideOver (a b : RationalFunction) : Type 0 where
  pub turned : Bool
  pub poly : List Monomial
  pub form : IsCanonicalOf b.top.top turned poly
  pub wide : IsQuotientBeyond (product_of_quotients a.top (scale_of turned b.top.below form.content))
      ⊎ ((x : Quotient) × IsLowestOf (product_of_quotients a.top (scale_of turned b.top.below form.content)) x
      × IsBeyondFraction (times x b.bottom) (product_of a.bottom poly))

-- what an operation gives for two rational functions passes a limit
abbrev pub IsWideBy : (RationalFunction → RationalFunction → Type 0) → (RationalFunction → Type 0) → (RationalFunction → Type 0) → Type 0
IsWideBy Wide A B = (a : RationalFunction) × (b : RationalFunction) × A a × B b × Wide a b

-- some node passes a limit, or a product on the way to one
abbrev pub IsWideExpr : List Name → Expr → Type 0
IsWideExpr ns (number q) = IsBeyondFraction (over (constant_of q.num) (den q)) one
IsWideExpr ns (symbol x) = IsBeyondFraction (over (symbol_of (place_of x ns)) 1) one
IsWideExpr ns (sum u v) = IsWideExpr ns u ⊎ (IsWideExpr ns v ⊎ IsWideBy (IsWideJoin sum_of_quotients) (IsFormOf ns u) (IsFormOf ns v))
IsWideExpr ns (difference u v) = IsWideExpr ns u ⊎ (IsWideExpr ns v ⊎ IsWideBy (IsWideJoin difference_of_quotients) (IsFormOf ns u) (IsFormOf ns v))
IsWideExpr ns (opposite u) = IsWideExpr ns u ⊎ ((a : RationalFunction) × IsFormOf ns u a × IsBeyondFraction (opposite_of_quotient a.top) a.bottom)
IsWideExpr ns (product u v) = IsWideExpr ns u ⊎ (IsWideExpr ns v ⊎ IsWideBy IsWideProduct (IsFormOf ns u) (IsFormOf ns v))
IsWideExpr ns (power u k) = IsWideExpr ns u ⊎ ((a : RationalFunction) × IsFormOf ns u a × IsWidePower a k)
IsWideExpr ns (quotient u v) = IsWideExpr ns u ⊎ (IsWideExpr ns v ⊎ IsWideBy IsWideOver (IsFormOf ns u) (IsFormOf ns v))

-- a node of a side passes a limit, or left less right does
abbrev pub IsWideAtom : List Name → Expr → Expr → Type 0
IsWideAtom ns u v = IsWideExpr ns (difference u v)

-- some atom is wide, wherever it stands
abbrev mutual
  pub IsWideClaim : List Name → Claim → Type 0
  IsWideClaim ns always = ⊥
  IsWideClaim ns never = ⊥
  IsWideClaim ns (atom u rel v) = IsWideAtom ns u v
  IsWideClaim ns (negation c) = IsWideClaim ns c
  IsWideClaim ns (conjunction cs) = IsWideAmong ns cs
  IsWideClaim ns (disjunction cs) = IsWideAmong ns cs
  IsWideClaim ns (implication a b) = IsWideClaim ns a ⊎ IsWideClaim ns b
  IsWideClaim ns (equivalence a b) = IsWideClaim ns a ⊎ IsWideClaim ns b

  pub IsWideAmong : List Name → Claims → Type 0
  IsWideAmong ns none = ⊥
  IsWideAmong ns (more c cs) = IsWideClaim ns c ⊎ IsWideAmong ns cs

-- the same for a list of claims
abbrev pub AreWide : List Name → List Claim → Type 0
AreWide ns cs = IsWideAmong ns (claims_from cs)

-- each name of an expression is listed
abbrev pub IsListedExpr : List Name → Expr → Type 0
IsListedExpr ns (number q) = Unit {0}
IsListedExpr ns (symbol x) = place_of x ns < length ns
IsListedExpr ns (sum u v) = IsListedExpr ns u × IsListedExpr ns v
IsListedExpr ns (difference u v) = IsListedExpr ns u × IsListedExpr ns v
IsListedExpr ns (opposite u) = IsListedExpr ns u
IsListedExpr ns (product u v) = IsListedExpr ns u × IsListedExpr ns v
IsListedExpr ns (power u k) = IsListedExpr ns u
IsListedExpr ns (quotient u v) = IsListedExpr ns u × IsListedExpr ns v

-- and of a claim
abbrev mutual
  pub IsListedClaim : List Name → Claim → Type 0
  IsListedClaim ns always = Unit {0}
  IsListedClaim ns never = Unit {0}
  IsListedClaim ns (atom u rel v) = IsListedExpr ns u × IsListedExpr ns v
  IsListedClaim ns (negation c) = IsListedClaim ns c
  IsListedClaim ns (conjunction cs) = AreListedClaims ns cs
  IsListedClaim ns (disjunction cs) = AreListedClaims ns cs
  IsListedClaim ns (implication a b) = IsListedClaim ns a × IsListedClaim ns b
  IsListedClaim ns (equivalence a b) = IsListedClaim ns a × IsListedClaim ns b

  pub AreListedClaims : List Name → Claims → Type 0
  AreListedClaims ns none = Unit {0}
  AreListedClaims ns (more c cs) = IsListedClaim ns c × AreListedClaims ns cs

-- the same for a list of claims
abbrev pub AreListed : List Name → List Claim → Type 0
AreListed ns cs = AreListedClaims ns (claims_from cs)
