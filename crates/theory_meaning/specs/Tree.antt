-- The plain trees of expressions, claims and lines.
use Rattle.std.specs.Prelude.{ℕ, List, [], ◌∷◌, Option}
use Rattle.theory_meaning.specs.declared.words.Rel.{Rel}
use Rattle.theory_meaning.specs.Fraction.{Fraction}
use Rattle.theory_meaning.specs.Point.{Name}

-- an expression over names; a number is never negative, since a minus sign is a node of its own
pub data Expr : Type 0 where
  number : Fraction → Expr
  symbol : Name → Expr
  sum : Expr → Expr → Expr
  difference : Expr → Expr → Expr
  opposite : Expr → Expr
  product : Expr → Expr → Expr
  power : Expr → ℕ → Expr
  quotient : Expr → Expr → Expr

-- a claim, with lists of claims as a type beside it
mutual
  -- a claim over names
  pub data Claim : Type 0 where
    always : Claim
    never : Claim
    atom : Expr → Rel → Expr → Claim
    negation : Claim → Claim
    conjunction : Claims → Claim
    disjunction : Claims → Claim
    implication : Claim → Claim → Claim
    equivalence : Claim → Claim → Claim

  -- the members of a conjunction or disjunction
  pub data Claims : Type 0 where
    none : Claims
    more : Claim → Claims → Claims

-- the claims of a list
abbrev pub claims_from : List Claim → Claims
claims_from [] = none
claims_from (c ∷ cs) = more c (claims_from cs)

-- a line of a model text
pub data Line : Type 0 where
  model : Name → Line
  var : Name → Line
  param : Name → Line
  function : Name → List Name → Line
  equation : Name → Expr → Expr → Line
  assume : Name → Claim → Line
  claim : Name → Option Name → Claim → Line
