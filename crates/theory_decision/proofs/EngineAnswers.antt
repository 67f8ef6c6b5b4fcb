-- A written half and a written condition on names are ones that an engine may answer.
use Rattle.std.proofs.Common.{◌≡◌, ◌≤◌, length, List, inl, inr}
use Rattle.theory_meaning.specs.declared.words.Kind.{Kind}
use Rattle.theory_meaning.specs.Deciding.{IsLicensed, IsHalf, IsLicensedRegion, IsRegion}
use Rattle.theory_meaning.specs.Half.{Half, Cause, found, found_wide, absent, left}
use Rattle.theory_meaning.specs.Point.{Name, AreDistinct}
use Rattle.theory_meaning.specs.Region.{Region, known, unknown, AreAmong}
use Rattle.theory_meaning.specs.Tree.{Claim}
use Rattle.theory_formula.specs.Formula.{Formula}
use Rattle.theory_lowering.specs.LoweringLimits.{AreListed}
use Rattle.theory_decision.specs.Outcomes.{Outcome, hits_by, empty, failed_by, IsSearch, Leaves, all_of, true_everywhere, failed_before, AreLeaves}
use Rattle.theory_decision.specs.Answers.{Lowering, refused, lowered, IsLowering, IsHalfBy, IsHalfOf, IsWrittenHalf, symbols_of, region_by, IsRegionOf, IsWrittenRegion}
use Rattle.theory_decision.specs.Engine.{IsWrittenRegionCause, engine}
use Rattle.theory_decision.proofs.HalfTruth.{written_half_is_right}
use Rattle.theory_decision.proofs.RegionTruth.{written_region_is_right}

module _ (kind : Kind) (ns : List Name) (cs : List Claim) where
  licensed_by : (F : Formula) (o : Outcome) (h : Half) → IsLowering ns cs (lowered F) → IsSearch kind F o → IsHalfBy ns o h
      → IsLicensed engine ns cs kind h
  licensed_by F o (found p) k s b = tt
  licensed_by F o absent k s b = tt
  licensed_by F (hits_by path) found_wide k s (inl b) = absurd cc
  licensed_by F (hits_by path) found_wide k s (inr b) = (F, path, k, s, b.0)
  licensed_by F empty found_wide k s b = absurd cc
  licensed_by F (failed_by f) found_wide k s b = absurd cc
  licensed_by F (hits_by path) (left c) k s (inl b) = absurd cc
  licensed_by F (hits_by path) (left c) k s (inr b) = absurd cc
  licensed_by F empty (left c) k s b = absurd cc
  licensed_by F (failed_by f) (left c) k s b = (lowered F, k, (f, s, cc))

  licensed_of : (l : Lowering) (h : Half) → IsLowering ns cs l → IsHalfOf kind ns l h → IsLicensed engine ns cs kind h
  licensed_of (lowered F) h k b = licensed_by F b.0 h k b.1 b.2
  licensed_of (refused c) (found p) k b = tt
  licensed_of (refused c) absent k b = tt
  licensed_of (refused c) found_wide k b = absurd cc
  licensed_of (refused c) (left d) k b = (refused c, k, cc)

pub engine_may_answer : (kind : Kind) (ns : List Name) (cs : List Claim) (h : Half) → length ns ≤ 32 → AreListed ns cs → AreDistinct ns
    → IsWrittenHalf kind ns cs h → IsHalf engine ns cs kind h
engine_may_answer kind ns cs h few listed distinct w = record {
  right = written_half_is_right kind ns cs h few listed distinct w;
  licensed = licensed_of kind ns cs w.0 h w.1 w.2;
  allowed = w;
}

-- why a condition stays unknown
module _ (kind : Kind) (ns : List Name) (cs : List Claim) (on_names : List Name) where
  unknown_by : (F : Formula) (l : Leaves) (c : Cause) → IsLowering ns cs (lowered F) → AreLeaves (symbols_of ns on_names) kind F l
      → unknown c ≡ region_by kind ns l → IsWrittenRegionCause kind ns cs on_names c
  unknown_by F (all_of leaves) c k l e = absurd cc
  unknown_by F true_everywhere c k l e = absurd cc
  unknown_by F (failed_before f) c k l e = (lowered F, k, (f, l, cc))

  unknown_of : (l : Lowering) (c : Cause) → IsLowering ns cs l → IsRegionOf kind ns on_names l (unknown c) → IsWrittenRegionCause kind ns cs on_names c
  unknown_of (refused d) c k b = (refused d, k, cc)
  unknown_of (lowered F) c k b = unknown_by F b.0 c k b.1 b.2

  pub licensed_region : (r : Region) → IsWrittenRegion kind ns cs on_names r → IsLicensedRegion engine ns cs on_names kind r
  licensed_region (known C) w = tt
  licensed_region (unknown c) w = unknown_of w.0 c w.1 w.2

pub engine_may_answer_region : (kind : Kind) (ns : List Name) (cs : List Claim) (on_names : List Name) (r : Region) → length ns ≤ 32 → AreListed ns cs
    → AreDistinct ns → AreAmong on_names ns → IsWrittenRegion kind ns cs on_names r → IsRegion engine ns cs on_names kind r
engine_may_answer_region kind ns cs on_names r few listed distinct among w = record {
  right = written_region_is_right kind ns cs on_names r few listed distinct among w;
  licensed = licensed_region kind ns cs on_names r w;
  allowed = w;
}
