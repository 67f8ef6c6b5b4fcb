-- A list of leaves, and one leaf more.
use Rattle.std.specs.Prelude.{◌≡◌, Bool, true, false, List, [], ◌∷◌, ◌++◌}
use Rattle.theory_formula.specs.Formula.{Formula}
use Rattle.theory_decision.specs.Search.{AreTooMany}

-- the leaf is added, or there would be too many with it
abbrev pub AddsLeaf : Formula → List Formula → List Formula → Bool → Type 0
AddsLeaf S old new true = ¬ AreTooMany (old ++ S ∷ []) × (new ≡ old ++ S ∷ [])
AddsLeaf S old new false = AreTooMany (old ++ S ∷ []) × (new ≡ old)
