-- What is found at a node of the search, before any branch of it is visited. Source: this project's own.
use Rattle.std.specs.Prelude.{ℕ, ◌||◌, Bool, nat_lt, if◌then◌else◌, List, [], ◌∷◌, length, flat_map, Option, None, Some}
use Rattle.theory_meaning.specs.declared.words.Kind.{Kind}
use Rattle.theory_polynomial.specs.Polynomial.{Monomial, degree_in, IsFreeOf}
use Rattle.theory_formula.specs.declared.signs.Signs.{Signs}
use Rattle.theory_formula.specs.Formula.{Formula, always, never}
use Rattle.theory_formula.specs.FormulaAtoms.{atoms_of}
use Rattle.theory_elimination.specs.Branches.{IsBranch}
use Rattle.theory_elimination.specs.Widths.{IsWideBranch}
use Rattle.theory_signed.specs.ByKind.{simplified_for}
use Rattle.theory_decision.specs.Choice.{Symbols, others, candidates, chosen}

-- an atom that keeps its symbol from being eliminated
pub record StuckAtom : Type 0 where
  pub symbol : ℕ
  pub poly : List Monomial
  pub signs : Signs

-- the first atom in which the degree of the symbol is above 1, if there is one
abbrev pub stuck_at : ℕ → List (List Monomial × Signs) → List StuckAtom
stuck_at x [] = []
stuck_at x (a ∷ rows) = if nat_lt 1 (degree_in x a.0) then record { symbol = x; poly = a.0; signs = a.1 } ∷ [] else stuck_at x rows

-- for each symbol but those to keep
abbrev pub stuck_atoms : Symbols → Formula → List StuckAtom
stuck_atoms keep F = flat_map (λ x. stuck_at x (atoms_of F)) (others keep F)

-- why a search fails
pub data Failure : Type 0 where
  stuck : List StuckAtom → Failure
  wide : Failure
  large : Failure
  budget : Failure
  many_leaves : Failure

-- the symbol occurs in none of these atoms
abbrev pub AreFreeOf : ℕ → List StuckAtom → Type 0
AreFreeOf y [] = Unit {0}
AreFreeOf y (a ∷ atoms) = IsFreeOf y a.poly × AreFreeOf y atoms

-- nor in those on which a search is stuck
abbrev pub IsFreeFailure : ℕ → Failure → Type 0
IsFreeFailure y (stuck atoms) = AreFreeOf y atoms
IsFreeFailure y wide = Unit {0}
IsFreeFailure y large = Unit {0}
IsFreeFailure y budget = Unit {0}
IsFreeFailure y many_leaves = Unit {0}

-- a node: a formula, or a branch of which a cross product passes a limit
pub data Node : Type 0 where
  reached : Formula → Node
  too_wide : Node

-- the k-th branch as a node
abbrev pub IsNode : ℕ → Formula → ℕ → Node → Type 0
IsNode x S k (reached G) = IsBranch x S k G × ¬ IsWideBranch x S k
IsNode x S k too_wide = IsWideBranch x S k

-- what is found: no point, every point, a failure, a formula over kept symbols, or a symbol to eliminate from a formula
pub data Finding : Type 0 where
  nowhere : Finding
  everywhere : Finding
  fails : Failure → Finding
  leaf : Formula → Finding
  eliminates : ℕ → Formula → Finding

-- the number of atoms
abbrev pub size_of : Formula → ℕ
size_of F = length (atoms_of F)

-- more than 512 atoms, or deeper than 64
abbrev pub is_large : ℕ → Formula → Bool
is_large depth S = nat_lt 512 (size_of S) || nat_lt 64 depth

-- a leaf where only kept symbols occur; else the chosen symbol is eliminated, and where there is none the search is stuck
abbrev pub finding_by : Symbols → Formula → Symbols → Option ℕ → Finding
finding_by keep S [] choice = leaf S
finding_by keep S (y ∷ ys) None = fails (stuck (stuck_atoms keep S))
finding_by keep S (y ∷ ys) (Some x) = eliminates x S

-- at a simplified formula that isn't decided
abbrev pub open_finding : Symbols → Kind → ℕ → Formula → Finding
open_finding keep kind depth S = if is_large depth S then fails large else finding_by keep S (others keep S) (chosen kind (candidates keep S))

-- at a simplified formula
abbrev pub finding_in : Symbols → Kind → ℕ → Formula → Finding
finding_in keep kind depth never = nowhere
finding_in keep kind depth always = everywhere
finding_in keep kind depth S = open_finding keep kind depth S

-- at a node
abbrev pub finding : Symbols → Kind → ℕ → Node → Finding
finding keep kind depth too_wide = fails wide
finding keep kind depth (reached F) = finding_in keep kind depth (simplified_for kind F)
