-- Simplification by signs makes no polynomial: what holds of those of the formula holds of all that stay.
use Rattle.std.proofs.Common.{Bool, List, [], ◌∷◌}
use Rattle.std.specs.Prelude.{map}
use Rattle.theory_polynomial.specs.Terms.{Monomial}
use Rattle.theory_formula.specs.Formula.{Formula}
use Rattle.theory_elimination.specs.Facts.{Facts}
use Rattle.theory_elimination.specs.Simplified.{Part, Waiting, settled, condition, other, left_open, simplified_by}
use Rattle.theory_elimination.proofs.SimplifiedAtoms.{Each, OfParts, OfSome, of_then, of_undecided, of_judged, Waits, known_keeps, simplified_by_each}
use Rattle.theory_signed.specs.PossibleSigns.{judged_by_signs}
use Rattle.theory_signed.specs.Signed.{by_signs, facts_beside, open_by_signs, by_known_and_signs}

module _ (Q : List Monomial → Type 0) where
  of_signs : {X : Type 0} (R : X → Type 0) (K : Facts) (ms : List (Part X)) → OfParts Q R ms → OfParts Q R (map (by_signs K) ms)
  of_signs R K [] h = tt
  of_signs R K (settled b ∷ ms) h = (tt, of_signs R K ms h.1)
  of_signs R K (condition P S ∷ ms) h = (of_judged Q R P S (judged_by_signs K P S) h.0, of_signs R K ms h.1)
  of_signs R K (other x ∷ ms) h = (h.0, of_signs R K ms h.1)

  -- the members that stay open keep the fact
  pub signs_keep : (all : Bool) (K : Facts) (ms : List Waiting) → OfParts Q (Waits Q) ms
      → OfSome Q (Waits Q) (by_known_and_signs.open_members all K ms)
  signs_keep all K ms h =
      of_then Q (Waits Q) (open_by_signs all K) (left_open all K ms)
      (λ qs k.
      let beside : Facts = facts_beside all qs K in
      of_undecided Q (Waits Q) all (map (by_signs beside) qs) (of_signs (Waits Q) beside qs k))
      (known_keeps Q all K ms h)

  pub signed_each : (K : Facts) (F : Formula) → Each Q F → Each Q (simplified_by by_known_and_signs K F)
  signed_each = simplified_by_each Q by_known_and_signs signs_keep
