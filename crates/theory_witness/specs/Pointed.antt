-- The point along the path of a hit, by the listed names. Source: this project's own.
use Rattle.std.specs.Prelude.{◌≡◌, List, [], ◌∷◌, length}
use Rattle.theory_meaning.specs.Point.{Name}
use Rattle.theory_polynomial.specs.PolynomialValue.{Values}
use Rattle.theory_formula.specs.Formula.{IsTrueAt}
use Rattle.theory_lowering.specs.Lowered.{values_of}
use Rattle.theory_decision.specs.Choice.{Symbols}
use Rattle.theory_decision.specs.Search.{Step}
use Rattle.theory_decision.specs.Witness.{IsWitness, IsWideWitness}
use Rattle.theory_decision.specs.Answers.{named}
use Rattle.theory_witness.specs.declared.pointing.Pointed.{Pointed}
use Rattle.theory_witness.specs.declared.pointing.Pointed.TheVariants as pointed

-- the values of the path's witness by their names, or that it passes a limit
abbrev pub IsPointed : List Name → List Step → Pointed → Type 0
IsPointed ns path (pointed.At p) = (given : Symbols) × (q : Values) × IsWitness (length ns) path given q × (p ≡ named ns q)
IsPointed ns path pointed.Wide = IsWideWitness (length ns) path

-- the point makes the formula of the path's first step true
abbrev pub IsRightPoint : List Name → List Step → Pointed → Type 0
IsRightPoint ns (s ∷ path) (pointed.At p) = IsTrueAt s.formula (values_of ns p)
IsRightPoint ns [] (pointed.At p) = Unit {0}
IsRightPoint ns path pointed.Wide = Unit {0}
