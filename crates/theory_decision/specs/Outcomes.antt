-- The outcome of a search, in which no symbol is kept, and the leaves of one. Source: this project's own.
use Rattle.std.specs.Prelude.{◌≡◌, List, [], Option, None, Some}
use Rattle.theory_meaning.specs.declared.words.Kind.{Kind}
use Rattle.theory_formula.specs.Formula.{Formula}
use Rattle.theory_decision.specs.Choice.{Symbols}
use Rattle.theory_decision.specs.Finding.{Failure}
use Rattle.theory_decision.specs.Search.{Step, Run, goes_on, hit, over, IsRun}

-- what a search gives
pub data Outcome : Type 0 where
  hits_by : List Step → Outcome
  empty : Outcome
  failed_by : Failure → Outcome

-- the outcome of a run in which no symbol is kept: where there is no hit the first failure that was met counts
abbrev pub IsOutcome : Run → Outcome → Type 0
IsOutcome (hit path) o = o ≡ hits_by path
IsOutcome (over f) o = o ≡ failed_by f
IsOutcome (goes_on s) (hits_by path) = ⊥
IsOutcome (goes_on s) empty = (s.failure ≡ None) × (s.leaves ≡ [])
IsOutcome (goes_on s) (failed_by f) = s.failure ≡ Some f

-- the written search
abbrev pub IsSearch : Kind → Formula → Outcome → Type 0
IsSearch kind F o = (r : Run) × IsRun [] kind F r × IsOutcome r o

-- what a search for leaves gives
pub data Leaves : Type 0 where
  all_of : List Formula → Leaves
  true_everywhere : Leaves
  failed_before : Failure → Leaves

-- the leaves, where no failure was met
abbrev pub leaves_by : Option Failure → List Formula → Leaves
leaves_by None leaves = all_of leaves
leaves_by (Some f) leaves = failed_before f

-- what a run gives: a hit makes the formula true for all values of the kept symbols
abbrev pub leaves_of : Run → Leaves
leaves_of (hit path) = true_everywhere
leaves_of (over f) = failed_before f
leaves_of (goes_on s) = leaves_by s.failure s.leaves

-- the written leaves
abbrev pub AreLeaves : Symbols → Kind → Formula → Leaves → Type 0
AreLeaves keep kind F l = (r : Run) × IsRun keep kind F r × (l ≡ leaves_of r)
