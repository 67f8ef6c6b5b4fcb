-- A written half is right.
use Rattle.std.proofs.Common.{◌≤◌, length, List, sym, ◌∙◌, subst, inl, inr}
use Rattle.theory_meaning.specs.Point.{Name, AreDistinct}
use Rattle.theory_meaning.specs.Tree.{Claim}
use Rattle.theory_meaning.specs.Truth.{Meets}
use Rattle.theory_meaning.specs.Half.{Half, IsRightHalf}
use Rattle.theory_polynomial.specs.PolynomialValue.{Values}
use Rattle.theory_formula.specs.Formula.{Formula, IsTrueAt}
use Rattle.theory_lowering.specs.Lowered.{values_of, IsLowered}
use Rattle.theory_lowering.specs.LoweringLimits.{AreListed}
use Rattle.theory_decision.specs.Witness.{IsOver}
use Rattle.theory_lowering.proofs.LoweredLaws.{lowered_truth}
use Rattle.theory_meaning.specs.declared.words.Kind.{Kind}
use Rattle.theory_decision.specs.Outcomes.{Outcome, hits_by, empty, failed_by, IsSearch}
use Rattle.theory_decision.specs.Answers.{named, Lowering, refused, lowered, IsLowering, IsHalfBy, IsHalfOf, IsWrittenHalf}
use Rattle.theory_lowering.proofs.LoweredAtoms.{lowered_proper, lowered_free}
use Rattle.theory_decision.proofs.OutcomeTruth.{empty_has_none, hit_has_one}
use Rattle.theory_decision.proofs.HitPaths.{search_path}
use Rattle.theory_decision.proofs.WitnessTruth.{witness_is_right}
use Rattle.theory_decision.proofs.NamedPoints.{named_truth}

-- the symbols of a lowered formula are those of the listed names
pub lowered_is_over : (ns : List Name) (cs : List Claim) (F : Formula) → AreListed ns cs → IsLowered ns cs F → IsOver (length ns) F
lowered_is_over ns cs F listed w x past = lowered_free ns x past cs F listed w

module _ (kind : Kind) (ns : List Name) (cs : List Claim) (few : length ns ≤ 32) (listed : AreListed ns cs) (distinct : AreDistinct ns) where
  pub meets_named : (F : Formula) (p : Values) → IsLowered ns cs F → IsTrueAt F p → Meets cs (named ns p)
  meets_named F p w t =
      sym (lowered_truth ns cs F (named ns p) few listed w)
      ∙ named_truth ns p F distinct (lowered_is_over ns cs F listed w) ∙ t

  right_by : (F : Formula) (o : Outcome) (h : Half) → IsLowered ns cs F → IsSearch kind F o → IsHalfBy ns o h → IsRightHalf cs h
  right_by F (failed_by f) h w s b = subst (IsRightHalf cs) (sym b) tt
  right_by F empty h w s b =
      subst (IsRightHalf cs) (sym b)
      (λ p m. empty_has_none kind F (lowered_proper ns cs F w) s (values_of ns p) (lowered_truth ns cs F p few listed w ∙ m))
  right_by F (hits_by path) h w s (inl b) =
      let right = witness_is_right kind (length ns) F path b.0 b.1 (lowered_proper ns cs F w) (lowered_is_over ns cs F listed w)
      (search_path kind F path s) b.2 in
      subst (IsRightHalf cs) (sym b.3) (meets_named F b.1 w right.truth)
  right_by F (hits_by path) h w s (inr b) =
      let one = hit_has_one kind F path (lowered_proper ns cs F w) s in
      subst (IsRightHalf cs) (sym b.1) (named ns one.0, meets_named F one.0 w one.1)

  right_half : (l : Lowering) (h : Half) → IsLowering ns cs l → IsHalfOf kind ns l h → IsRightHalf cs h
  right_half (refused c) h k b = subst (IsRightHalf cs) (sym b) tt
  right_half (lowered F) h k b = right_by F b.0 h k.2 b.1 b.2

pub written_half_is_right : (kind : Kind) (ns : List Name) (cs : List Claim) (h : Half) → length ns ≤ 32 → AreListed ns cs → AreDistinct ns
    → IsWrittenHalf kind ns cs h → IsRightHalf cs h
written_half_is_right kind ns cs h few listed distinct w = right_half kind ns cs few listed distinct w.0 h w.1 w.2
