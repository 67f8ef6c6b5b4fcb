-- The verdict on a claim, from its two halves and in terms of points.
-- Source: the four outcomes of TheoryGuru (Mulligan, Davenport, England, ICMS 2018).
use Rattle.theory_meaning.specs.declared.words.Verdict.{Verdict}
use Rattle.theory_meaning.specs.declared.words.Verdict.TheVariants.{Holds, Fails, Contradictory, Mixed, Undecided}
use Rattle.theory_meaning.specs.Point.{Point}
use Rattle.theory_meaning.specs.Half.{Half, found, found_wide, absent, left}

-- is there a point: yes, no, or not known
pub data Presence : Type 0 where
  there : Presence
  missing : Presence
  unknown : Presence

-- whether a half tells a point; one that is left open tells nothing
abbrev pub presence_of : Half → Presence
presence_of (found p) = there
presence_of found_wide = there
presence_of absent = missing
presence_of (left cause) = unknown

-- example first, counterexample second
abbrev pub verdict_of_presences : Presence → Presence → Verdict
verdict_of_presences unknown _ = Undecided
verdict_of_presences there unknown = Undecided
verdict_of_presences missing unknown = Undecided
verdict_of_presences there missing = Holds
verdict_of_presences missing there = Fails
verdict_of_presences missing missing = Contradictory
verdict_of_presences there there = Mixed

-- the table of verdicts
abbrev pub verdict_of_halves : Half → Half → Verdict
verdict_of_halves example counter = verdict_of_presences (presence_of example) (presence_of counter)

-- some point meets the assumptions
abbrev pub IsSatisfiable : (Point → Type 0) → Type 0
IsSatisfiable Assumed = (p : Point) × Assumed p

-- the verdict is right for points that meet the assumptions and points that make the claim true
abbrev pub IsRightVerdict : (Point → Type 0) → (Point → Type 0) → Verdict → Type 0
IsRightVerdict Assumed Claimed Contradictory = (p : Point) → ¬ Assumed p
IsRightVerdict Assumed Claimed Holds = IsSatisfiable Assumed × ((p : Point) → Assumed p → Claimed p)
IsRightVerdict Assumed Claimed Fails = IsSatisfiable Assumed × ((p : Point) → Assumed p → ¬ Claimed p)
IsRightVerdict Assumed Claimed Mixed = ((p : Point) × Assumed p × Claimed p) × ((p : Point) × Assumed p × ¬ Claimed p)
IsRightVerdict Assumed Claimed Undecided = Unit {0}
