-- The plain halves, causes and conditions that the types of this crate stand for.
use Rattle.std.specs.Prelude.{Bool, true, false, Option, Some, None, map}
use Rattle.theory_meaning.specs.Half as plain
use Rattle.theory_meaning.specs.Point.{Name}
use Rattle.theory_meaning.specs.Region as region
use Rattle.theory_meaning.specs.Tree as tree
use Rattle.theory_syntax.specs.Plain.{claim_of}
use Rattle.theory_verdict.specs.declared.answer.Region as source
use Rattle.theory_verdict.specs.declared.half.StuckOn.{StuckOn}
use Rattle.theory_verdict.specs.declared.half.Cause.{Cause}
use Rattle.theory_verdict.specs.declared.half.Cause.TheVariants.{Stuck, Wide, Large, Budget, ManyLeaves}
use Rattle.theory_verdict.specs.declared.half.Half.{Half}
use Rattle.theory_verdict.specs.declared.half.Half.TheVariants.{Found, FoundWide, Absent, Left}

-- a symbol with its atom
abbrev pub stuck_of : StuckOn → Name × tree.Claim
stuck_of s = (s.symbol, claim_of s.atom)

-- a cause
abbrev pub cause_of : Cause → plain.Cause
cause_of (Stuck ons) = plain.stuck (map stuck_of ons.items)
cause_of Wide = plain.wide
cause_of Large = plain.large
cause_of Budget = plain.budget
cause_of ManyLeaves = plain.many_leaves

-- a half
abbrev pub half_of : Half → plain.Half
half_of (Found p) = plain.found p
half_of FoundWide = plain.found_wide
half_of Absent = plain.absent
half_of (Left cause) = plain.left (cause_of cause)

-- a condition on names
abbrev pub region_of : source.Region → region.Region
region_of (source.TheVariants.Known condition) = region.known (claim_of condition)
region_of (source.TheVariants.Unknown cause) = region.unknown (cause_of cause)

-- yes, no or not known, as an option
abbrev pub presence : plain.Half → Option Bool
presence (plain.found p) = Some true
presence plain.found_wide = Some true
presence plain.absent = Some false
presence (plain.left cause) = None
