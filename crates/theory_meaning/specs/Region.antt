-- The condition on chosen names under which no point meets a list of claims. Source: this project's own.
use Rattle.std.specs.Prelude.{◌↔◌, List, Contains}
use Rattle.theory_meaning.specs.Declarations.{symbols_of_claim}
use Rattle.theory_meaning.specs.Fraction.{IsSame}
use Rattle.theory_meaning.specs.Half.{Cause}
use Rattle.theory_meaning.specs.Point.{Name, Point, value_at}
use Rattle.theory_meaning.specs.Question.{IsTrueAt}
use Rattle.theory_meaning.specs.Tree.{Claim}
use Rattle.theory_meaning.specs.Truth.{Meets}

-- the condition, or why it isn't known
pub data Region : Type 0 where
  known : Claim → Region
  unknown : Cause → Region

-- each of the first names is one of the others
abbrev pub AreAmong : List Name → List Name → Type 0
AreAmong some names = (x : Name) → Contains some x → Contains names x

-- the claim holds no symbols but these names
abbrev pub HoldsOnly : List Name → Claim → Type 0
HoldsOnly names c = AreAmong (symbols_of_claim c) names

-- the two points give the same values to the names
abbrev pub AgreeOn : List Name → Point → Point → Type 0
AgreeOn names p q = (x : Name) → Contains names x → IsSame (value_at p x) (value_at q x)

-- the condition is true exactly where no point with these values meets the claims
abbrev pub IsRightFor : List Claim → List Name → Claim → Type 0
IsRightFor cs names condition = (p : Point) → IsTrueAt condition p ↔ ((q : Point) → AgreeOn names p q → ¬ Meets cs q)

-- what a known one says of the claims; one that isn't known says nothing
abbrev pub IsRightRegion : List Claim → List Name → Region → Type 0
IsRightRegion cs names (known condition) = HoldsOnly names condition × IsRightFor cs names condition
IsRightRegion cs names (unknown cause) = Unit {0}
