-- A half that is put together of a lowered sentence, its search and its witness.
use Rattle.std.proofs.Common.{◌≡◌, ℕ, ◌≤◌, length, List, refl, inl, inr, subst}
use Rattle.std.specs.Prelude.{IfOk, Result, Ok, Err}
use Rattle.theory_meaning.specs.declared.words.Kind.{Kind}
use Rattle.theory_meaning.specs.Deciding.{IsHalf}
use Rattle.theory_meaning.specs.Half as half
use Rattle.theory_meaning.specs.Half.{Half}
use Rattle.theory_meaning.specs.Point.{Name, AreDistinct}
use Rattle.theory_meaning.specs.Tree.{Claim}
use Rattle.theory_polynomial.specs.Polynomial.{IsFreeOf}
use Rattle.theory_formula.specs.Formula.{Formula, EachAtom}
use Rattle.theory_formula.specs.Symbols.{IsNamed, IsProper}
use Rattle.theory_lowering.specs.NormalForm.{IsLarge}
use Rattle.theory_lowering.specs.Lowered.{IsLowered}
use Rattle.theory_lowering.specs.LoweringLimits.{AreWide, AreListed}
use Rattle.theory_elimination.proofs.AtomLists.{each_follows}
use Rattle.theory_decision.specs.Answers.{lowered, refused, IsHalfOf}
use Rattle.theory_decision.specs.Engine.{engine}
use Rattle.theory_decision.specs.Finding.{Failure, IsFreeFailure}
use Rattle.theory_decision.specs.Outcomes.{hits_by, failed_by, IsSearch}
use Rattle.theory_decision.specs.Search.{Step}
use Rattle.theory_decision.specs.Witness.{IsOver}
use Rattle.theory_decision.proofs.EngineAnswers.{engine_may_answer}
use Rattle.theory_decision.proofs.HitPaths.{search_path}
use Rattle.theory_decision.proofs.StuckAtoms.{search_free}
use Rattle.theory_lower.specs.declared.fault.LowerFault.{LowerFault}
use Rattle.theory_lower.specs.declared.fault.LowerFault.TheVariants.{Large, Wide}
use Rattle.theory_lower.specs.Lowering.{LowersWhere}
use Rattle.theory_points.specs.declared.limit.NoMemory.{NoMemory}
use Rattle.theory_verdict.specs.declared.half.Half as source
use Rattle.theory_verdict.specs.Plain.{half_of}
use Rattle.theory_witness.specs.Path.{IsHitPath}

-- a formula of named symbols is one over the first of them
pub named_is_over : (ns : List Name) (F : Formula) → EachAtom (IsNamed ns) F → IsOver (length ns) F
named_is_over ns F h x l = each_follows (IsNamed ns) (λ P S. IsFreeOf x P) F (λ P S n. n x l) h

module _ (kind : Kind) (ns : List Name) (F : Formula) (named : EachAtom (IsNamed ns) F) where
  pub hit_is_path : (path : List Step) → IsProper F → IsSearch kind F (hits_by path) → IsHitPath (length ns) path
  hit_is_path path proper s = (kind, F, proper, named_is_over ns F named, search_path kind F path s)

  pub failure_is_named : (f : Failure) → IsSearch kind F (failed_by f) → (y : ℕ) → length ns ≤ y → IsFreeFailure y f
  failure_is_named f s y l = search_free y kind F f (named_is_over ns F named y l) s

module _ (kind : Kind) (ns : List Name) (cs : List Claim) (few : length ns ≤ 32) (listed : AreListed ns cs) (distinct : AreDistinct ns) where
  half_of_lowered : (F : Formula) (h : Half) → ¬ IsLarge cs → ¬ AreWide ns cs → IsLowered ns cs F → IsHalfOf kind ns (lowered F) h
      → IsHalf engine ns cs kind h
  half_of_lowered F h large wide w is = engine_may_answer kind ns cs h few listed distinct (lowered F, (large, wide, w), is)

  -- the same of an answer; want of memory tells nothing
  pub half_of_ok : (F : Formula) (answer : Result source.Half NoMemory) → ¬ IsLarge cs → ¬ AreWide ns cs → IsLowered ns cs F
      → IfOk answer (λ h. IsHalfOf kind ns (lowered F) (half_of h)) → IfOk answer (λ h. IsHalf engine ns cs kind (half_of h))
  half_of_ok F (Ok h) large wide w is = half_of_lowered F (half_of h) large wide w is
  half_of_ok F (Err e) large wide w is = tt

  half_of_large : IsLarge cs → IsHalf engine ns cs kind (half.left half.large)
  half_of_large large =
      engine_may_answer kind ns cs (half.left half.large) few listed distinct (refused half.large, inl (large, refl), refl)

  half_of_wide : ¬ IsLarge cs → AreWide ns cs → IsHalf engine ns cs kind (half.left half.wide)
  half_of_wide large wide =
      engine_may_answer kind ns cs (half.left half.wide) few listed distinct (refused half.wide, inr (large, wide, refl), refl)

  -- and of a sentence that is refused
  module _ (T : Type 0) (fault : LowerFault) (told : LowersWhere {T = T} (IsLarge cs) (AreWide ns cs) (Err fault)) where
    pub half_of_large_fault : fault ≡ Large → IsHalf engine ns cs kind (half.left half.large)
    half_of_large_fault is = half_of_large (subst (λ (f : LowerFault). LowersWhere {T = T} (IsLarge cs) (AreWide ns cs) (Err f)) is told)

    pub half_of_wide_fault : fault ≡ Wide → IsHalf engine ns cs kind (half.left half.wide)
    half_of_wide_fault is =
        let w = subst (λ (f : LowerFault). LowersWhere {T = T} (IsLarge cs) (AreWide ns cs) (Err f)) is told in half_of_wide w.0 w.1
