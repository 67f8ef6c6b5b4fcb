-- The two halves of a question: is there a point that meets a list of claims?
-- Source: the two questions of TheoryGuru (Mulligan, Davenport, England, ICMS 2018).
use Rattle.std.specs.Prelude.{List}
use Rattle.theory_meaning.specs.Point.{Name, Point}
use Rattle.theory_meaning.specs.Tree.{Claim}
use Rattle.theory_meaning.specs.Truth.{Meets}

-- why a half is left open
pub data Cause : Type 0 where
  stuck : List (Name × Claim) → Cause
  wide : Cause
  large : Cause
  budget : Cause
  many_leaves : Cause

-- the answer to one question
pub data Half : Type 0 where
  found : Point → Half
  found_wide : Half
  absent : Half
  left : Cause → Half

-- the half is true of the points asked for; one that is left open says nothing of them
abbrev pub IsRightHalfOf : (Point → Type 0) → Half → Type 0
IsRightHalfOf Asked (found p) = Asked p
IsRightHalfOf Asked found_wide = (p : Point) × Asked p
IsRightHalfOf Asked absent = (p : Point) → ¬ Asked p
IsRightHalfOf Asked (left cause) = Unit {0}

-- the half is true of the points that meet the claims
abbrev pub IsRightHalf : List Claim → Half → Type 0
IsRightHalf cs = IsRightHalfOf (Meets cs)

-- the half is left open
abbrev pub IsLeft : Half → Type 0
IsLeft (found p) = ⊥
IsLeft found_wide = ⊥
IsLeft absent = ⊥
IsLeft (left cause) = Unit {0}
