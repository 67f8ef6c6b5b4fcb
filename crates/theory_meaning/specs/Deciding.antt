-- What a decider may answer to claims under listed names. Source: this project's own.
use Rattle.std.specs.Prelude.{List}
use Rattle.theory_meaning.specs.declared.words.Kind.{Kind}
use Rattle.theory_meaning.specs.Half.{Half, Cause, found, found_wide, absent, left, IsRightHalf}
use Rattle.theory_meaning.specs.Point.{Name}
use Rattle.theory_meaning.specs.Region.{Region, known, unknown, IsRightRegion}
use Rattle.theory_meaning.specs.Tree.{Claim}

-- by an order: the halves and the conditions on names that may be given, the causes for which a half may be left
-- or a condition stay unknown, and whether a point may stay unprinted
pub record Meanings : Type 1 where
  pub allows : List Name → List Claim → Kind → Half → Type 0
  pub may_leave : List Name → List Claim → Kind → Cause → Type 0
  pub may_hide : List Name → List Claim → Kind → Type 0
  pub allows_region : List Name → List Claim → List Name → Kind → Region → Type 0
  pub may_not_know : List Name → List Claim → List Name → Kind → Cause → Type 0

-- a half is left, or its point stays unprinted, only where that may be
abbrev pub IsLicensed : Meanings → List Name → List Claim → Kind → Half → Type 0
IsLicensed m ns cs kind (found p) = Unit {0}
IsLicensed m ns cs kind found_wide = m.may_hide ns cs kind
IsLicensed m ns cs kind absent = Unit {0}
IsLicensed m ns cs kind (left cause) = m.may_leave ns cs kind cause

-- the half is right of the claims, and may be given
pub record IsHalf (m : Meanings) (ns : List Name) (cs : List Claim) (kind : Kind) (h : Half) : Type 0 where
  pub right : IsRightHalf cs h
  pub licensed : IsLicensed m ns cs kind h
  pub allowed : m.allows ns cs kind h

-- a condition on names stays unknown only where that may be
abbrev pub IsLicensedRegion : Meanings → List Name → List Claim → List Name → Kind → Region → Type 0
IsLicensedRegion m ns cs on kind (known condition) = Unit {0}
IsLicensedRegion m ns cs on kind (unknown cause) = m.may_not_know ns cs on kind cause

-- the condition on names is right of the claims, and may be given
pub record IsRegion (m : Meanings) (ns : List Name) (cs : List Claim) (on : List Name) (kind : Kind) (r : Region) : Type 0 where
  pub right : IsRightRegion cs on r
  pub licensed : IsLicensedRegion m ns cs on kind r
  pub allowed : m.allows_region ns cs on kind r
