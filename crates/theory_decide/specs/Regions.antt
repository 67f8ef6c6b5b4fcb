-- Leaves of which the condition is written over listed names.
use Rattle.std.specs.Prelude.{ℕ, ◌≤◌, List, length}
use Rattle.theory_meaning.specs.declared.words.Kind.{Kind}
use Rattle.theory_meaning.specs.Point.{Name}
use Rattle.theory_formula.specs.Formula.{EachAtom, disjunction, formulas_from, negated}
use Rattle.theory_formula.specs.Symbols.{IsNamed}
use Rattle.theory_signed.specs.ByKind.{simplified_for}
use Rattle.theory_decision.specs.Finding.{IsFreeFailure}
use Rattle.theory_decision.specs.Outcomes.{Leaves, all_of, true_everywhere, failed_before}

-- what is written for leaves holds symbols of listed names alone
abbrev pub AreNamed : Kind → List Name → Leaves → Type 0
AreNamed kind ns (all_of leaves) = EachAtom (IsNamed ns) (negated (simplified_for kind (disjunction (formulas_from leaves))))
AreNamed kind ns true_everywhere = Unit {0}
AreNamed kind ns (failed_before f) = (y : ℕ) → length ns ≤ y → IsFreeFailure y f
