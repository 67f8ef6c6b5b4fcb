-- Points that agree on symbols, and what a formula says of them.
use Rattle.std.specs.Prelude.{ℕ, List, IsTrue}
use Rattle.theory_meaning.specs.Fraction.{IsSame}
use Rattle.theory_polynomial.specs.PolynomialValue.{Values, symbol_at}
use Rattle.theory_formula.specs.Formula.{Formula, disjunction, formulas_from, IsTrueAt}
use Rattle.theory_decision.specs.Choice.{Symbols, is_one_of}

-- the two points give each of these symbols the same value
abbrev pub AgreeOn : Symbols → Values → Values → Type 0
AgreeOn keep p q = (y : ℕ) → IsTrue (is_one_of keep y) → IsSame (symbol_at y p) (symbol_at y q)

-- some values of the other symbols make the formula true
abbrev pub IsTrueFor : Symbols → Values → Formula → Type 0
IsTrueFor keep p F = (q : Values) × AgreeOn keep p q × IsTrueAt F q

-- some leaf is true at the point
abbrev pub SomeIsTrueAt : Values → List Formula → Type 0
SomeIsTrueAt p leaves = IsTrueAt (disjunction (formulas_from leaves)) p
