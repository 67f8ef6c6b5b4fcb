-- Nodes, findings and runs of the program as the plain ones.
use Rattle.std.specs.Prelude.{◌≡◌, ℕ, ◌<◌, [], ◌∷◌, ◌++◌, Bool, true, false, reverse}
use Rattle.std.specs.Option.{option_map}
use Rattle.theory_meaning.specs.declared.words.Kind.{Kind}
use Rattle.theory_decision.specs.Finding as plain
use Rattle.theory_decision.specs.Choice.{Symbols}
use Rattle.theory_decision.specs.Search.{first_failure, with_leaf, AreTooMany}
use Rattle.theory_decision.specs.Search as plain_run
use Rattle.theory_formula.specs.Formula as plain_formula
use Rattle.theory_elimination.specs.Elimination.{IsLinear}
use Rattle.theory_signs.specs.Plain.{formula_of}
use Rattle.theory_search.specs.declared.finding.Node.{Node}
use Rattle.theory_search.specs.declared.finding.Node.TheVariants.{Reached, TooWide}
use Rattle.theory_search.specs.declared.finding.Found.{Found}
use Rattle.theory_search.specs.declared.finding.Found.TheVariants.{Nowhere, Everywhere, Fails, Leaf, Eliminates}
use Rattle.theory_search.specs.declared.finding.Choice.{Choice}
use Rattle.theory_search.specs.declared.finding.Choice.TheVariants.{Symbol, KeptAlone, Fails as ChosenFails}
use Rattle.theory_search.specs.declared.progress.Progress.{Progress}
use Rattle.theory_search.specs.declared.progress.Run.{Run}
use Rattle.theory_search.specs.declared.progress.Run.TheVariants.{GoesOn, Hit, Over}
use Rattle.theory_search.specs.Outcomes.{failure_of, formulas_of, path_of}

-- a node
abbrev pub node_of : Node → plain.Node
node_of (Reached F) = plain.reached (formula_of F)
node_of TooWide = plain.too_wide

-- what is found
abbrev pub finding_of : Found → plain.Finding
finding_of Nowhere = plain.nowhere
finding_of Everywhere = plain.everywhere
finding_of (Fails f) = plain.fails (failure_of f)
finding_of (Leaf F) = plain.leaf (formula_of F)
finding_of (Eliminates x F) = plain.eliminates x (formula_of F)

-- a symbol that is eliminated is linear, and the depth is one at which branches are visited
pub record CanBranch (depth x : ℕ) (F : plain_formula.Formula) : Type 0 where
  pub shallow : depth < 65
  pub symbol : x < 32
  pub linear : IsLinear x F

abbrev pub IsReady : ℕ → Found → Type 0
IsReady depth (Eliminates x F) = CanBranch depth x (formula_of F)
IsReady depth _ = Unit {0}

-- what is chosen is what is found
abbrev pub IsChosen : Symbols → Kind → ℕ → plain_formula.Formula → Choice → Type 0
IsChosen keep kind depth S (Symbol x) = (plain.open_finding keep kind depth S ≡ plain.eliminates x S) × CanBranch depth x S
IsChosen keep kind depth S KeptAlone = plain.open_finding keep kind depth S ≡ plain.leaf S
IsChosen keep kind depth S (ChosenFails f) = plain.open_finding keep kind depth S ≡ plain.fails (failure_of f)

-- how far a run has come
abbrev pub progress_of : Progress → plain_run.Progress
progress_of s = record {
  visited = s.visited;
  failure = option_map failure_of s.failure;
  leaves = formulas_of s.leaves.formulas.items;
}

-- what comes of a visit; the steps of a path are pushed while returning
abbrev pub run_of : Run → Progress → plain_run.Run
run_of GoesOn s = plain_run.goes_on (progress_of s)
run_of (Hit path) s = plain_run.hit (path_of (reverse path.items))
run_of (Over f) s = plain_run.over (first_failure (progress_of s) (failure_of f))

-- a leaf is kept, or there would be too many with it
abbrev pub KeepsLeaf : plain_formula.Formula → plain_run.Progress → plain_run.Progress → Bool → Type 0
KeepsLeaf S s t true = ¬ AreTooMany (s.leaves ++ S ∷ []) × (t ≡ with_leaf S s)
KeepsLeaf S s t false = AreTooMany (s.leaves ++ S ∷ []) × (t ≡ s)

-- a run that goes on has no leaf
abbrev pub HasNoLeaf : plain_run.Run → Type 0
HasNoLeaf (plain_run.goes_on s) = s.leaves ≡ []
HasNoLeaf (plain_run.hit path) = Unit {0}
HasNoLeaf (plain_run.over f) = Unit {0}
