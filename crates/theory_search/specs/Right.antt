-- What an outcome of a search, and what the leaves of one say of the formula.
use Rattle.std.specs.Prelude.{◌≡◌, ◌↔◌, ℕ, false, List, [], ◌∷◌}
use Rattle.theory_polynomial.specs.PolynomialValue.{Values}
use Rattle.theory_formula.specs.Formula.{Formula, IsTrueAt}
use Rattle.theory_formula.specs.Symbols.{IsFree}
use Rattle.theory_decision.specs.Choice.{Symbols, is_one_of}
use Rattle.theory_decision.specs.Outcomes.{Outcome, hits_by, empty, failed_by, Leaves, all_of, true_everywhere, failed_before}
use Rattle.theory_decision.specs.Regions.{IsTrueFor, SomeIsTrueAt}

-- of a hit some point makes the formula true, and where the search is empty none does
abbrev pub IsRight : Formula → Outcome → Type 0
IsRight F (hits_by path) = (p : Values) × IsTrueAt F p
IsRight F empty = (p : Values) → ¬ IsTrueAt F p
IsRight F (failed_by f) = Unit {0}

-- some leaf is true exactly where some values of the symbols that aren't kept make the formula true
abbrev pub AreRight : Symbols → Formula → Leaves → Type 0
AreRight keep F (all_of leaves) = (p : Values) → SomeIsTrueAt p leaves ↔ IsTrueFor keep p F
AreRight keep F true_everywhere = (p : Values) → IsTrueFor keep p F
AreRight keep F (failed_before f) = Unit {0}

-- a symbol that isn't kept occurs in none of them
abbrev pub AreFree : ℕ → List Formula → Type 0
AreFree y [] = Unit {0}
AreFree y (S ∷ leaves) = IsFree y S × AreFree y leaves

-- leaves hold kept symbols alone
abbrev pub HoldKeptAlone : Symbols → Leaves → Type 0
HoldKeptAlone keep (all_of leaves) = (y : ℕ) → is_one_of keep y ≡ false → AreFree y leaves
HoldKeptAlone keep true_everywhere = Unit {0}
HoldKeptAlone keep (failed_before f) = Unit {0}
