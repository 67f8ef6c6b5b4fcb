-- The plain outcomes that those of the program stand for.
use Rattle.std.specs.Prelude.{ℕ, List, [], ◌∷◌, map, flat_map, if◌then◌else◌, Option, None, Some}
use Rattle.std.specs.Borrow.{Bor}
use Rattle.theory_signs.specs.declared.atom.Atom.{Atom}
use Rattle.theory_formula.specs.declared.signs.Signs.{Signs}
use Rattle.theory_polynomial.specs.Polynomial.{Monomial}
use Rattle.theory_decision.specs.Choice.{Symbols, symbols_from}
use Rattle.theory_decision.specs.Finding as plain
use Rattle.theory_decision.specs.Search as plain_run
use Rattle.theory_decision.specs.Outcomes as plain_outcome
use Rattle.theory_signs.specs.Plain.{formula_of}
use Rattle.theory_signs.specs.declared.formula.Formula.{Formula}
use Rattle.theory_formula.specs.Formula as plain_formula
use Rattle.theory_signs.specs.declared.path.PathStep.{PathStep}
use Rattle.theory_search.specs.declared.outcome.StuckAtom.{StuckAtom}
use Rattle.theory_search.specs.declared.outcome.Failure.{Failure}
use Rattle.theory_search.specs.declared.outcome.Failure.TheVariants.{Stuck, Wide, Large, Budget, ManyLeaves}
use Rattle.theory_search.specs.declared.outcome.Outcome.{Outcome}
use Rattle.theory_search.specs.declared.outcome.Outcome.TheVariants.{Hit, Empty, Failed}
use Rattle.theory_search.specs.declared.outcome.Leaves.{Leaves}
use Rattle.theory_search.specs.declared.outcome.Leaves.TheVariants as found
use Rattle.theory_search.specs.Atoms.{is_other}

-- an atom that keeps its symbol from being eliminated
abbrev pub stuck_of : StuckAtom → plain.StuckAtom
stuck_of a = record { symbol = a.symbol; poly = a.atom.poly; signs = a.atom.signs }

-- the symbol is stuck in this atom, if there is one
abbrev pub stuck_by : ℕ → Option (Bor Atom) → List plain.StuckAtom
stuck_by x None = []
stuck_by x (Some a) = record { symbol = x; poly = a.now.poly; signs = a.now.signs } ∷ []

-- the first atom in which the degree of the symbol is above 1, where it isn't one to keep
abbrev pub stuck_other : Symbols → List (List Monomial × Signs) → ℕ → List plain.StuckAtom
stuck_other keep rows x = if is_other keep rows x then plain.stuck_at x rows else []

-- the same for each of the first symbols
abbrev pub stuck_below : Symbols → List (List Monomial × Signs) → ℕ → List plain.StuckAtom
stuck_below keep rows n = flat_map (stuck_other keep rows) (symbols_from 0 n)

-- a failure
abbrev pub failure_of : Failure → plain.Failure
failure_of (Stuck atoms) = plain.stuck (map stuck_of atoms.items)
failure_of Wide = plain.wide
failure_of Large = plain.large
failure_of Budget = plain.budget
failure_of ManyLeaves = plain.many_leaves

-- a step of a path
abbrev pub step_of : PathStep → plain_run.Step
step_of s = record { formula = formula_of s.formula; symbol = s.symbol }

-- a path
abbrev pub path_of : List PathStep → List plain_run.Step
path_of steps = map step_of steps

-- an outcome
abbrev pub outcome_of : Outcome → plain_outcome.Outcome
outcome_of (Hit path) = plain_outcome.hits_by (path_of path.items)
outcome_of Empty = plain_outcome.empty
outcome_of (Failed failure) = plain_outcome.failed_by (failure_of failure)

-- leaves in their order
abbrev pub formulas_of : List Formula → List plain_formula.Formula
formulas_of = map formula_of

-- what a search for leaves gives
abbrev pub plain_leaves : Leaves → plain_outcome.Leaves
plain_leaves (found.All leaves) = plain_outcome.all_of (formulas_of leaves.items)
plain_leaves found.Everywhere = plain_outcome.true_everywhere
plain_leaves (found.Failed failure) = plain_outcome.failed_before (failure_of failure)
