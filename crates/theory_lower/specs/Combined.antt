-- How rational functions are kept, and what the parts of an expression's form give together.
use Rattle.std.specs.Prelude.{◌≡◌, ℕ, List, Bool, true, false, Result, Ok, Err, IfOk}
use Rattle.theory_points.specs.declared.limit.Limit.{Limit}
use Rattle.theory_polynomial.specs.Polynomial.{Monomial}
use Rattle.theory_polynomial.specs.RationalPolynomial.{Quotient, sum_of_quotients, difference_of_quotients}
use Rattle.theory_lowering.specs.RationalFunction.{RationalFunction, opposite_of_quotient, IsJoinOf, IsOppositeOf, IsProductOf, IsPowerOf, IsQuotientOf}
use Rattle.theory_lowering.specs.LoweringLimits.{IsBeyondFraction, IsWideJoin, IsWideProduct, IsWidePower, IsWideOver}
use Rattle.theory_poly.specs.Answers.{WideWhere}
use Rattle.theory_poly.specs.Kept.{IsKept, IsKeptQuotient}
use Rattle.theory_lower.specs.declared.forms.Operation.{Operation}
use Rattle.theory_lower.specs.declared.forms.Operation.TheVariants.{Sum, Difference, Product, Quotient as Division}

-- the rational function with these parts
abbrev pub function_of : Quotient → List Monomial → RationalFunction
function_of q P = record { top = q; bottom = P }

-- a rational function whose parts are within the limits
pub record IsKeptFunction (r : RationalFunction) : Type 0 where
  pub top : IsKeptQuotient r.top
  pub bottom : IsKept r.bottom

-- the difference of two quotients where that is said, and else the sum
abbrev pub signed_sum : Bool → Quotient → Quotient → Quotient
signed_sum true = difference_of_quotients
signed_sum false = sum_of_quotients

-- two parts give their rational function, and else the first fault
abbrev pub Pairs : Result Quotient Limit → Result (List Monomial) Limit → Result RationalFunction Limit → Type 0
Pairs (Ok q) (Ok P) (Ok r) = r ≡ function_of q P
Pairs (Ok q) (Ok P) (Err fault) = ⊥
Pairs (Ok q) (Err fault) result = result ≡ Err fault
Pairs (Err fault) bottom result = result ≡ Err fault

-- what the operation gives
abbrev pub IsResultBy : Operation → RationalFunction → RationalFunction → RationalFunction → Type 0
IsResultBy Sum = IsJoinOf sum_of_quotients
IsResultBy Difference = IsJoinOf difference_of_quotients
IsResultBy Product = IsProductOf
IsResultBy Division = IsQuotientOf

-- and when that passes a limit
abbrev pub IsBeyondBy : Operation → RationalFunction → RationalFunction → Type 0
IsBeyondBy Sum = IsWideJoin sum_of_quotients
IsBeyondBy Difference = IsWideJoin difference_of_quotients
IsBeyondBy Product = IsWideProduct
IsBeyondBy Division = IsWideOver

-- two results give what an operation gives within the limits, and else the first fault
abbrev pub Combines : (RationalFunction → RationalFunction → RationalFunction → Type 0) → (RationalFunction → RationalFunction → Type 0)
    → Result RationalFunction Limit → Result RationalFunction Limit → Result RationalFunction Limit → Type 0
Combines Op IsWide (Ok a) (Ok b) result = IfOk result (Op a b) × WideWhere (IsWide a b) result
Combines Op IsWide (Ok a) (Err fault) result = result ≡ Err fault
Combines Op IsWide (Err fault) second result = result ≡ Err fault

-- one result gives its opposite
abbrev pub Opposes : Result RationalFunction Limit → Result RationalFunction Limit → Type 0
Opposes (Ok a) result = IfOk result (IsOppositeOf a) × WideWhere (IsBeyondFraction (opposite_of_quotient a.top) a.bottom) result
Opposes (Err fault) result = result ≡ Err fault

-- or its power
abbrev pub Raises : Result RationalFunction Limit → ℕ → Result RationalFunction Limit → Type 0
Raises (Ok a) k result = IfOk result (IsPowerOf a k) × WideWhere (IsWidePower a k) result
Raises (Err fault) k result = result ≡ Err fault
