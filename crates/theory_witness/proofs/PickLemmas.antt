-- What is answered for a formula in one symbol is right.
use Rattle.std.proofs.Common.{◌≡◌, ℕ, List, [], Option, None, Some, ◌∙◌}
use Rattle.std.specs.Prelude.{find}
use Rattle.theory_meaning.specs.Fraction.{Fraction}
use Rattle.theory_formula.specs.Formula.{Formula, Formulas, always, never, atom, conjunction, disjunction, none, more, EachAtomOfAll, truth_at}
use Rattle.theory_elimination.specs.Elimination.{IsLinear, IsLinearAtom}
use Rattle.theory_decision.specs.Candidates.{AreCandidates}
use Rattle.theory_decision.specs.Witness.{only_at, AreRoots}
use Rattle.theory_decision.proofs.PickLaws.{none_picked, picked_is_right}
use Rattle.theory_decision.proofs.WitnessTruth.{same_truth}
use Rattle.theory_witness.specs.declared.picking.Picked.{Picked}
use Rattle.theory_witness.specs.declared.picking.Picked.TheVariants as picked
use Rattle.theory_witness.specs.Lines.{HoldsOnly, IsInOne}
use Rattle.theory_witness.specs.Picked.{IsAnswer, IsPicked, IsRightPick}

-- a formula in one symbol is linear in it
module _ (x : ℕ) where
  mutual
    linear_in_one : (F : Formula) → IsInOne x F → IsLinear x F
    linear_in_one always h = tt
    linear_in_one never h = tt
    linear_in_one (atom P S) h = h.linear
    linear_in_one (conjunction Fs) h = linear_in_all Fs h
    linear_in_one (disjunction Fs) h = linear_in_all Fs h

    linear_in_all : (Fs : Formulas) → EachAtomOfAll (HoldsOnly x) Fs → EachAtomOfAll (IsLinearAtom x) Fs
    linear_in_all none h = tt
    linear_in_all (more F Fs) h = (linear_in_one F h.0, linear_in_all Fs h.1)

-- the first candidate that fits is what is picked
pub first_is_pick : (x : ℕ) (F : Formula) (bs cs : List Fraction) (o : Option Fraction) (p : Picked) → AreRoots x F bs → AreCandidates bs cs
    → o ≡ find (λ q. truth_at F (only_at x q)) cs → IsAnswer o p → IsPicked x F p
first_is_pick x F bs cs o p roots tried first h = (o, (bs, cs, roots, tried, first), h)

-- and right
pub pick_is_right : (x : ℕ) (F : Formula) (p : Picked) → IsInOne x F → IsPicked x F p → IsRightPick x F p
pick_is_right x F (picked.Value v) h (Some q, w, a) = same_truth x v q [] F a.equal ∙ picked_is_right x F q w
pick_is_right x F picked.Wide h (Some q, w, a) = (q, picked_is_right x F q w)
pick_is_right x F picked.Nowhere h (Some q, w, a) = absurd a
pick_is_right x F (picked.Value v) h (None, w, a) = absurd cc
pick_is_right x F picked.Wide h (None, w, a) = absurd cc
pick_is_right x F picked.Nowhere h (None, w, a) = none_picked x F (linear_in_one x F h) w
