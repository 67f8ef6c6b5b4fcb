-- The roots of a formula in one symbol, put in their places one after another.
use Rattle.std.specs.Prelude.{◌≡◌, ◌≤◌, ◌⊎◌, List, [], ◌∷◌, length, Contains, insert, if◌then◌else◌}
use Rattle.theory_meaning.specs.Fraction.{Fraction, IsSame, same, below}
use Rattle.theory_decision.specs.Candidates.{IsAscending}
use Rattle.theory_witness.specs.declared.roots.Place.{Place}
use Rattle.theory_witness.specs.declared.roots.Place.TheVariants.{There, Before}

-- the list with a root put in its place; one that is there stays alone
abbrev pub inserted : Fraction → List Fraction → List Fraction
inserted r [] = r ∷ []
inserted r (b ∷ bs) = if below r b then r ∷ b ∷ bs else (if same r b then b ∷ bs else b ∷ inserted r bs)

-- where a root goes in a list
abbrev pub IsPlace : Fraction → List Fraction → Place → Type 0
IsPlace r bs There = inserted r bs ≡ bs
IsPlace r bs (Before k) = (k ≤ length bs) × (inserted r bs ≡ insert bs k r)

-- the numbers with a fact are added to a list, upwards and each once
pub record AddsRoots (IsOne : Fraction → Type 0) (old new : List Fraction) : Type 0 where
  pub ascending : IsAscending old → IsAscending new
  pub only_roots : (b : Fraction) → Contains new b → Contains old b ⊎ IsOne b
  pub keeps : (b : Fraction) → Contains old b → Contains new b
  pub all_roots : (q : Fraction) → IsOne q → (b : Fraction) × Contains new b × IsSame b q
