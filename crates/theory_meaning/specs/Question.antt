-- The assumptions and claims of a model, and the two questions that are asked of a claim.
-- Source: TheoryGuru (Mulligan, Davenport, England, ICMS 2018).
use Rattle.std.specs.Prelude.{List, [], ◌∷◌, ◌++◌, IsTrue}
use Rattle.theory_meaning.specs.Point.{Name, Point}
use Rattle.theory_meaning.specs.Tree.{Claim, negation, Line, assume, claim}
use Rattle.theory_meaning.specs.Truth.{truth_of}

-- the assumptions of lines, in their order
abbrev pub assumptions_of : List Line → List Claim
assumptions_of [] = []
assumptions_of (assume label c ∷ lines) = c ∷ assumptions_of lines
assumptions_of (_ ∷ lines) = assumptions_of lines

-- the claims of lines with their labels, in their order
abbrev pub claims_of : List Line → List (Name × Claim)
claims_of [] = []
claims_of (claim label shift c ∷ lines) = (label, c) ∷ claims_of lines
claims_of (_ ∷ lines) = claims_of lines

-- what an example meets: the assumptions and the claim
abbrev pub example_sentence : List Claim → Claim → List Claim
example_sentence assumed c = assumed ++ c ∷ []

-- what a counterexample meets: the assumptions and not the claim
abbrev pub counter_sentence : List Claim → Claim → List Claim
counter_sentence assumed c = assumed ++ negation c ∷ []

-- the claim is true at the point
abbrev pub IsTrueAt : Claim → Point → Type 0
IsTrueAt c p = IsTrue (truth_of c p)
