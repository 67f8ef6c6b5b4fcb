-- What is computed of expressions, claims and sentences at a point, where no value on the way passes the bound.
use Rattle.std.specs.Prelude.{◌≡◌, Bool, List, Option, Some, None, Result, Ok, Err}
use Rattle.theory_meaning.specs.Fraction.{Fraction, IsSame}
use Rattle.theory_meaning.specs.Point.{Point}
use Rattle.theory_meaning.specs.Tree.{Claim, claims_from}
use Rattle.theory_meaning.specs.Truth.{truth_of, meets}
use Rattle.theory_meaning.specs.Wide.{HasWidePart, SomeHasWidePart}
use Rattle.theory_points.specs.Parts.{IsKept}
use Rattle.theory_points.specs.declared.limit.Wide.{Wide}

-- the truth of the claim where nothing passes the bound, and Wide exactly where something does
abbrev pub IsTruth : Claim → Point → Result Bool Wide → Type 0
IsTruth c p (Ok t) = (t ≡ truth_of c p) × ¬ HasWidePart c p
IsTruth c p (Err _) = HasWidePart c p

-- whether the point meets the claims where nothing passes the bound, and Wide exactly where something does
abbrev pub IsMeeting : List Claim → Point → Result Bool Wide → Type 0
IsMeeting cs p (Ok met) = (met ≡ meets cs p) × ¬ SomeHasWidePart (claims_from cs) p
IsMeeting cs p (Err _) = SomeHasWidePart (claims_from cs) p

-- this truth where nothing passes the bound, and none exactly where something does
abbrev pub IsTruthWhere : Type 0 → Bool → Option Bool → Type 0
IsTruthWhere Passes t (Some found) = (found ≡ t) × ¬ Passes
IsTruthWhere Passes t None = Passes

-- a fraction in lowest terms that is this value, where nothing passes the bound
pub record IsValue (Passes : Type 0) (v found : Fraction) : Type 0 where
  pub same : IsSame found v
  pub kept : IsKept found
  pub narrow : ¬ Passes

-- this value where nothing passes the bound, and none exactly where something does
abbrev pub IsValued : Type 0 → Fraction → Option Fraction → Type 0
IsValued Passes v (Some found) = IsValue Passes v found
IsValued Passes v None = Passes
