-- Points that meet the lines of a model with a claim, and what is right of answers and conditions.
-- Source: the outcomes of TheoryGuru (Mulligan, Davenport, England, ICMS 2018), total differentiation;
-- that divisors are never 0 is this project's own.
use Rattle.std.specs.Prelude.{◌≡◌, ◌↔◌, ◌⊎◌, Bool, true, ◌&&◌, List, [], ◌∷◌, ◌++◌, Option, Some, None, IsTrue}
use Rattle.theory_meaning.specs.declared.words.Verdict.{Verdict}
use Rattle.theory_meaning.specs.declared.words.Verdict.TheVariants.{Undecided}
use Rattle.theory_meaning.specs.Divisors.{divisors_of_expr, divisors_of_claim}
use Rattle.theory_meaning.specs.Fraction.{same}
use Rattle.theory_meaning.specs.Half.{Half, IsLeft, IsRightHalfOf}
use Rattle.theory_meaning.specs.Point.{Name, Point}
use Rattle.theory_meaning.specs.Question.{IsTrueAt}
use Rattle.theory_meaning.specs.Region.{HoldsOnly, AgreeOn}
use Rattle.theory_meaning.specs.Slope.{slope_of}
use Rattle.theory_meaning.specs.Text.{Numbered}
use Rattle.theory_meaning.specs.Tree.{Expr, Claim, Line, equation, assume}
use Rattle.theory_meaning.specs.Truth.{value_of, are_nonzero, stands}
use Rattle.theory_meaning.specs.Verdict.{IsRightVerdict}

-- where a shift is named, both sides have the same slope along it
abbrev pub same_slopes : List Numbered → Option Name → Expr → Expr → Point → Bool
same_slopes lines None u v p = true
same_slopes lines (Some t) u v p = same (slope_of lines t u p) (slope_of lines t v p)

-- the two sides of an equation have the same values and slopes, and no divisor in them is 0
abbrev pub are_equal_sides : List Numbered → Option Name → Expr → Expr → Point → Bool
are_equal_sides lines shift u v p =
    same (value_of u p) (value_of v p)
    && (same_slopes lines shift u v p && are_nonzero (divisors_of_expr u ++ divisors_of_expr v) p)

-- the point meets a line of the model
abbrev pub meets_line : List Numbered → Option Name → Line → Point → Bool
meets_line lines shift (equation label u v) p = are_equal_sides lines shift u v p
meets_line lines shift (assume label c) p = stands c p
meets_line lines shift _ p = true

-- the point meets each of these lines of the model
abbrev pub meets_lines : List Numbered → Option Name → List Numbered → Point → Bool
meets_lines lines shift [] p = true
meets_lines lines shift (n ∷ ns) p = meets_line lines shift n.line p && meets_lines lines shift ns p

-- the point meets the model with the claim: all its lines, and no divisor in the claim is 0
abbrev pub meets_with : List Numbered → Option Name → Claim → Point → Bool
meets_with lines shift c p = meets_lines lines shift lines p && are_nonzero (divisors_of_claim c) p

-- the same as a fact
abbrev pub MeetsWith : List Numbered → Option Name → Claim → Point → Type 0
MeetsWith lines shift c p = IsTrue (meets_with lines shift c p)

-- the point meets the model with the claim, and makes the claim true
abbrev pub IsExample : List Numbered → Option Name → Claim → Point → Type 0
IsExample lines shift c p = MeetsWith lines shift c p × IsTrueAt c p

-- the point meets the model with the claim, and doesn't make the claim true
abbrev pub IsCounter : List Numbered → Option Name → Claim → Point → Type 0
IsCounter lines shift c p = MeetsWith lines shift c p × ¬ IsTrueAt c p

-- an answer to a claim: both halves are right, and the verdict is right; it is left undecided exactly where a half is left open
pub record IsRightAnswer (lines : List Numbered) (shift : Option Name) (c : Claim) (example counter : Half) (verdict : Verdict) : Type 0 where
  pub example_right : IsRightHalfOf (IsExample lines shift c) example
  pub counter_right : IsRightHalfOf (IsCounter lines shift c) counter
  pub undecided : (verdict ≡ Undecided) ↔ (IsLeft example ⊎ IsLeft counter)
  pub verdict_right : IsRightVerdict (MeetsWith lines shift c) (IsTrueAt c) verdict

-- a condition on names: it is true exactly where each point with these values that meets the model makes the claim true
pub record IsRightCondition (lines : List Numbered) (shift : Option Name) (c : Claim) (names : List Name) (condition : Claim) : Type 0 where
  pub names_only : HoldsOnly names condition
  pub right : (p : Point) →
      IsTrueAt condition p ↔ ((q : Point) → AgreeOn names p q → MeetsWith lines shift c q → IsTrueAt c q)
