-- Claims have one written half, and one written condition on names.
use Rattle.std.proofs.Common.{◌≡◌, length, List, sym, ap, ◌∙◌, subst, inl, inr}
use Rattle.std.specs.Prelude.{map}
use Rattle.theory_meaning.specs.declared.words.Kind.{Kind}
use Rattle.theory_meaning.specs.Half as half
use Rattle.theory_meaning.specs.Half.{Half, Cause}
use Rattle.theory_meaning.specs.Point.{Name}
use Rattle.theory_meaning.specs.Region.{Region}
use Rattle.theory_meaning.specs.Tree.{Claim}
use Rattle.theory_polynomial.specs.PolynomialValue.{Values}
use Rattle.theory_lowering.specs.Lowered.{place_of}
use Rattle.theory_lowering.proofs.SingleLowered.{lowered_single}
use Rattle.theory_lowering.proofs.LoweredAtoms.{lowered_proper}
use Rattle.theory_decision.specs.Outcomes.{Outcome, hits_by, empty, failed_by}
use Rattle.theory_decision.specs.Answers.{named, Lowering, refused, lowered, IsLowering, IsHalfBy, IsHalfOf, IsWrittenHalf, region_by, IsRegionOf, IsWrittenRegion}
use Rattle.theory_decision.proofs.OneRun.{search_once, leaves_once}
use Rattle.theory_decision.proofs.OneWitness.{witness_single, witness_not_wide}

module _ (ns : List Name) (cs : List Claim) where
  -- claims are refused for one cause, or have one lowered formula
  lowering_single : (l m : Lowering) → IsLowering ns cs l → IsLowering ns cs m → l ≡ m
  lowering_single (refused c) (refused d) (inl h) (inl k) = ap refused (h.1 ∙ sym k.1)
  lowering_single (refused c) (refused d) (inl h) (inr k) = absurd (k.0 h.0)
  lowering_single (refused c) (refused d) (inr h) (inl k) = absurd (h.0 k.0)
  lowering_single (refused c) (refused d) (inr h) (inr k) = ap refused (h.2 ∙ sym k.2)
  lowering_single (refused c) (lowered G) (inl h) k = absurd (k.0 h.0)
  lowering_single (refused c) (lowered G) (inr h) k = absurd (k.1 h.1)
  lowering_single (lowered F) (refused d) h (inl k) = absurd (h.0 k.0)
  lowering_single (lowered F) (refused d) h (inr k) = absurd (h.1 k.1)
  lowering_single (lowered F) (lowered G) h k = ap lowered (lowered_single ns cs F G h.2 k.2)

  -- an outcome makes one half
  half_by_single : (o : Outcome) (h g : Half) → IsHalfBy ns o h → IsHalfBy ns o g → h ≡ g
  half_by_single (failed_by f) h g w v = w ∙ sym v
  half_by_single empty h g w v = w ∙ sym v
  half_by_single (hits_by path) h g (inl w) (inl v) =
      w.3 ∙ ap (λ (p : Values). half.found (named ns p)) (witness_single (length ns) path w.0 v.0 w.1 v.1 w.2 v.2).1 ∙ sym v.3
  half_by_single (hits_by path) h g (inl w) (inr v) = absurd (witness_not_wide (length ns) path w.0 w.1 w.2 v.0)
  half_by_single (hits_by path) h g (inr w) (inl v) = absurd (witness_not_wide (length ns) path v.0 v.1 v.2 w.0)
  half_by_single (hits_by path) h g (inr w) (inr v) = w.1 ∙ sym v.1

  -- and so does a lowering, by each order
  half_of_single : (kind : Kind) (l : Lowering) (h g : Half) → IsLowering ns cs l → IsHalfOf kind ns l h → IsHalfOf kind ns l g → h ≡ g
  half_of_single kind (refused c) h g k w v = w ∙ sym v
  half_of_single kind (lowered F) h g k w v =
      let same : v.0 ≡ w.0 = search_once kind F v.0 w.0 (lowered_proper ns cs F k.2) v.1 w.1 in
      half_by_single w.0 h g w.2 (subst (λ (o : Outcome). IsHalfBy ns o g) same v.2)

  pub half_single : (kind : Kind) (h g : Half) → IsWrittenHalf kind ns cs h → IsWrittenHalf kind ns cs g → h ≡ g
  half_single kind h g w v =
      half_of_single kind w.0 h g w.1 w.2 (subst (λ (l : Lowering). IsHalfOf kind ns l g) (lowering_single v.0 w.0 v.1 w.1) v.2)

  -- leaves make one condition
  region_of_single : (kind : Kind) (on_names : List Name) (l : Lowering) (r q : Region) → IsLowering ns cs l → IsRegionOf kind ns on_names l r
      → IsRegionOf kind ns on_names l q → r ≡ q
  region_of_single kind on_names (refused c) r q k w v = w ∙ sym v
  region_of_single kind on_names (lowered F) r q k w v =
      w.2 ∙ ap (region_by kind ns) (leaves_once (map (λ n. place_of n ns) on_names) kind F w.0 v.0 (lowered_proper ns cs F k.2) w.1 v.1) ∙ sym v.2

  pub region_single : (kind : Kind) (on_names : List Name) (r q : Region) → IsWrittenRegion kind ns cs on_names r
      → IsWrittenRegion kind ns cs on_names q → r ≡ q
  region_single kind on_names r q w v =
      region_of_single kind on_names w.0 r q w.1 w.2
      (subst (λ (l : Lowering). IsRegionOf kind ns on_names l q) (lowering_single v.0 w.0 v.1 w.1) v.2)
