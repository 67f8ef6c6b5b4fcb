-- Failures of a search, atom by atom.
use Rattle.std.proofs.Common.{◌≡◌, ℕ, zero, suc, ◌<◌, length, List, [], ◌∷◌, get_or, map, subst, sym, arith}
use Rattle.std.specs.declared.vec.Vec.{Vec}
use Rattle.std.specs.Global.{Global}
use Rattle.theory_decision.specs.Finding.{AreFreeOf, IsFreeFailure}
use Rattle.theory_search.specs.declared.outcome.StuckAtom.{StuckAtom}
use Rattle.theory_search.specs.declared.outcome.Failure.{Failure}
use Rattle.theory_search.specs.declared.outcome.Failure.TheVariants.{Stuck}
use Rattle.theory_search.specs.Outcomes.{stuck_of, failure_of}

-- an atom of a list in which the symbol occurs in none
pub one_is_free : (y : ℕ) (atoms : List StuckAtom) (k : ℕ) (a : StuckAtom) → k < length atoms → a ≡ get_or atoms k a → AreFreeOf y (map stuck_of atoms)
    → AreFreeOf y (stuck_of a ∷ [])
one_is_free y [] k a within is h = absurd (omega (arith, within))
one_is_free y (b ∷ atoms) zero a within is h = subst (λ (c : StuckAtom). AreFreeOf y (stuck_of c ∷ [])) (sym is) (h.0, tt)
one_is_free y (b ∷ atoms) (suc k) a within is h = one_is_free y atoms k a (omega (arith, within)) is h.1

-- the atoms of a failure that is stuck
pub stuck_are_free : (y : ℕ) (f : Failure) (atoms : Vec StuckAtom Global) (lent : List StuckAtom) → f ≡ Stuck atoms → lent ≡ atoms.items
    → IsFreeFailure y (failure_of f) → AreFreeOf y (map stuck_of lent)
stuck_are_free y f atoms lent is same h =
    subst (λ (l : List StuckAtom). AreFreeOf y (map stuck_of l)) (sym same) (subst (λ (g : Failure). IsFreeFailure y (failure_of g)) is h)
