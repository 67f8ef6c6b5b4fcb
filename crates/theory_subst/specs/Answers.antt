-- What the calls for a branch answer.
use Rattle.std.specs.Prelude.{◌≡◌, ℕ, ◌≤◌, List, length, Option, None, Some, slice_get}
use Rattle.theory_formula.specs.Formula as plain
use Rattle.theory_elimination.specs.Branches.{Plan, IsBranch, IsWrittenBy, branch_plans}
use Rattle.theory_elimination.specs.Widths.{IsWidePlan}
use Rattle.theory_signs.specs.declared.formula.Formula.{Formula}
use Rattle.theory_signs.specs.Plain.{formula_of}

-- the k-th branch, and None exactly past the last
abbrev pub IsKthBranch : ℕ → plain.Formula → ℕ → Option Formula → Type 0
IsKthBranch x F k (Some G) = IsBranch x F k (formula_of G)
IsKthBranch x F k None = length (branch_plans x F) ≤ k

-- the branch that is written by the k-th plan, and None exactly past the last
abbrev pub IsWrittenByKth : ℕ → List Plan → ℕ → Option Formula → Type 0
IsWrittenByKth x plans k (Some G) = (plan : Plan) × (slice_get plans k ≡ Some plan) × IsWrittenBy x plan (formula_of G)
IsWrittenByKth x plans k None = length plans ≤ k

-- some cross product of that branch passes a limit
abbrev pub IsWideKth : ℕ → List Plan → ℕ → Type 0
IsWideKth x plans k = (plan : Plan) × (slice_get plans k ≡ Some plan) × IsWidePlan x plan
