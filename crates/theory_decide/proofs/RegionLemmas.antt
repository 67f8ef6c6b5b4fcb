-- A condition that is put together of a lowered sentence and its leaves.
use Rattle.std.proofs.Common.{◌≡◌, zero, suc, ◌≤◌, length, List, [], ◌∷◌, true, false, refl, inl, inr, subst, arith}
use Rattle.std.specs.Prelude.{IfOk, Result, Ok, Err, if◌then◌else◌}
use Rattle.std.specs.Str.{bytes_eq}
use Rattle.theory_meaning.specs.declared.words.Kind.{Kind}
use Rattle.theory_meaning.specs.Deciding.{IsLicensedRegion}
use Rattle.theory_meaning.specs.Half as half
use Rattle.theory_meaning.specs.Point.{Name, AreDistinct}
use Rattle.theory_meaning.specs.Region.{unknown, AreAmong, IsRightRegion}
use Rattle.theory_meaning.specs.Tree.{Claim}
use Rattle.theory_formula.specs.Formula.{Formula}
use Rattle.theory_lowering.specs.NormalForm.{IsLarge}
use Rattle.theory_lowering.specs.Lowered.{place_of, IsLowered}
use Rattle.theory_lowering.specs.LoweringLimits.{AreWide, AreListed}
use Rattle.theory_lowering.proofs.LoweredAtoms.{lowered_named}
use Rattle.theory_decision.specs.Answers.{lowered, refused, region_by, symbols_of, IsRegionOf, IsWrittenRegion}
use Rattle.theory_decision.specs.Choice.{Symbols}
use Rattle.theory_decision.specs.Outcomes.{Leaves, all_of, true_everywhere, failed_before, AreLeaves}
use Rattle.theory_decision.specs.Engine.{engine}
use Rattle.theory_decision.proofs.EngineAnswers.{licensed_region}
use Rattle.theory_decision.proofs.RegionTruth.{condition_named, written_region_is_right}
use Rattle.theory_decision.proofs.StuckAtoms.{leaves_free}
use Rattle.theory_lower.specs.declared.fault.LowerFault.{LowerFault}
use Rattle.theory_lower.specs.declared.fault.LowerFault.TheVariants.{Large, Wide}
use Rattle.theory_lower.specs.Lowering.{LowersWhere}
use Rattle.theory_points.specs.declared.limit.NoMemory.{NoMemory}
use Rattle.theory_verdict.specs.declared.answer.Region as source
use Rattle.theory_verdict.specs.Plain.{region_of}
use Rattle.theory_decide.specs.Regions.{AreNamed}
use Rattle.theory_decide.proofs.HalfLemmas.{named_is_over}

-- a place is at most the length of the list
pub place_within : (x : Name) (ns : List Name) → place_of x ns ≤ length ns
place_within x [] = omega arith
place_within x (y ∷ ns) =
    let rest = place_within x ns in
    elim (bytes_eq y x) as (λ b. (if b then zero else suc (place_of x ns)) ≤ suc (length ns)) [ true ↦ omega arith | false ↦ omega (arith, rest) ]

module _ (kind : Kind) (ns : List Name) (cs : List Claim) (on : List Name) (few : length ns ≤ 32) (listed : AreListed ns cs) (distinct : AreDistinct ns)
    (chosen : AreAmong on ns) where
  -- the symbols of the chosen names
  abbrev pub kept : Symbols
  kept = symbols_of ns on

  -- what is written for them holds named symbols alone
  named : (F : Formula) (l : Leaves) → IsLowered ns cs F → AreLeaves kept kind F l → AreNamed kind ns l
  named F (all_of leaves) w l = condition_named kind ns cs on few listed distinct chosen F leaves w l
  named F true_everywhere w l = tt
  named F (failed_before f) w l = λ y h. leaves_free y kept kind F f (named_is_over ns F (lowered_named ns cs F listed w) y h) l

  pub are_named : (F : Formula) (keep : Symbols) (l : Leaves) → IsLowered ns cs F → keep ≡ kept → AreLeaves keep kind F l → AreNamed kind ns l
  are_named F keep l w e h = named F l w (subst (λ ks. AreLeaves ks kind F l) e h)

  -- the condition by the leaves; want of memory tells nothing
  pub by_leaves : (F : Formula) (keep : Symbols) (l : Leaves) (answer : Result source.Region NoMemory) → keep ≡ kept → AreLeaves keep kind F l
      → IfOk answer (λ r. region_of r ≡ region_by kind ns l) → IfOk answer (λ r. IsRegionOf kind ns on (lowered F) (region_of r))
  by_leaves F keep l (Ok r) e h is = (l, subst (λ ks. AreLeaves ks kind F l) e h, is)
  by_leaves F keep l (Err m) e h is = tt

  -- and of a sentence, lowered or refused
  pub region_of_ok : (F : Formula) (answer : Result source.Region NoMemory) → ¬ IsLarge cs → ¬ AreWide ns cs → IsLowered ns cs F
      → IfOk answer (λ r. IsRegionOf kind ns on (lowered F) (region_of r)) → IfOk answer (λ r. IsWrittenRegion kind ns cs on (region_of r))
  region_of_ok F (Ok r) large wide w is = (lowered F, (large, wide, w), is)
  region_of_ok F (Err e) large wide w is = tt

  region_of_large : IsLarge cs → IsWrittenRegion kind ns cs on (unknown half.large)
  region_of_large large = (refused half.large, inl (large, refl), refl)

  region_of_wide : ¬ IsLarge cs → AreWide ns cs → IsWrittenRegion kind ns cs on (unknown half.wide)
  region_of_wide large wide = (refused half.wide, inr (large, wide, refl), refl)

  module _ (T : Type 0) (fault : LowerFault) (told : LowersWhere {T = T} (IsLarge cs) (AreWide ns cs) (Err fault)) where
    pub region_of_large_fault : fault ≡ Large → IsWrittenRegion kind ns cs on (unknown half.large)
    region_of_large_fault is = region_of_large (subst (λ (f : LowerFault). LowersWhere {T = T} (IsLarge cs) (AreWide ns cs) (Err f)) is told)

    pub region_of_wide_fault : fault ≡ Wide → IsWrittenRegion kind ns cs on (unknown half.wide)
    region_of_wide_fault is =
        let w = subst (λ (f : LowerFault). LowersWhere {T = T} (IsLarge cs) (AreWide ns cs) (Err f)) is told in region_of_wide w.0 w.1

  -- what a written condition says
  pub says : (answer : Result source.Region NoMemory) → IfOk answer (λ r. IsWrittenRegion kind ns cs on (region_of r))
      → IfOk answer (λ r. IsRightRegion cs on (region_of r))
  says (Ok r) w = written_region_is_right kind ns cs on (region_of r) few listed distinct chosen w
  says (Err e) w = tt

  -- and when it stays unknown
  pub may_not_know : (answer : Result source.Region NoMemory) → IfOk answer (λ r. IsWrittenRegion kind ns cs on (region_of r))
      → IfOk answer (λ r. IsLicensedRegion engine ns cs on kind (region_of r))
  may_not_know (Ok r) w = licensed_region kind ns cs on (region_of r) w
  may_not_know (Err e) w = tt
