-- Conditions that are known to hold, and what they say of another one. Source: this project's own.
use Rattle.std.specs.Prelude.{Bool, true, false, not, ◌&&◌, ◌||◌, if◌then◌else◌, List, [], ◌∷◌, Option, None, Some, IsTrue}
use Rattle.std.specs.Option.{unwrap_or}
use Rattle.theory_meaning.specs.declared.words.Sign.TheVariants.{Minus, Zero, Plus}
use Rattle.theory_formula.specs.declared.signs.Signs.{Signs}
use Rattle.theory_formula.specs.Signs.{has, meet}
use Rattle.theory_polynomial.specs.Terms.{Monomial}
use Rattle.theory_polynomial.specs.PolynomialValue.{Values}
use Rattle.theory_formula.specs.Formula.{sign_at}
use Rattle.theory_elimination.specs.SameFormula.{is_same_poly}

-- the sign of the polynomial is in the set
pub record Fact : Type 0 where
  pub poly : List Monomial
  pub signs : Signs

-- what is known, the first fact first
abbrev pub Facts : Type 0
Facts = List Fact

-- the set of the first fact on the polynomial, if there is one
abbrev pub known_set : List Monomial → Facts → Option Signs
known_set P [] = None
known_set P (f ∷ K) = if is_same_poly f.poly P then Some f.signs else known_set P K

-- each sign of the first set is in the second
abbrev pub is_within : Signs → Signs → Bool
is_within T S = (not (has T Minus) || has S Minus) && (not (has T Zero) || has S Zero) && (not (has T Plus) || has S Plus)

-- the sets have no common sign
abbrev pub are_apart : Option Signs → Bool
are_apart None = true
are_apart (Some R) = false

-- what a known set says of a condition with the set S: false where they have no common sign, true where it is within S
abbrev pub judged_by : Signs → Option Signs → Option Bool
judged_by S None = None
judged_by S (Some T) = if are_apart (meet T S) then Some false else (if is_within T S then Some true else None)

-- what the facts say of a condition
abbrev pub judged : Facts → List Monomial → Signs → Option Bool
judged K P S = judged_by S (known_set P K)

-- the facts with one more, whose set is met with the one that is known
abbrev pub with_fact : List Monomial → Signs → Facts → Facts
with_fact P S [] = record { poly = P; signs = S } ∷ []
with_fact P S (f ∷ K) = if is_same_poly f.poly P then record { poly = f.poly; signs = unwrap_or (meet f.signs S) f.signs } ∷ K else f ∷ with_fact P S K

-- each fact is true at the point
abbrev pub AreTrueAt : Values → Facts → Type 0
AreTrueAt p [] = Unit {0}
AreTrueAt p (f ∷ K) = IsTrue (has f.signs (sign_at f.poly p)) × AreTrueAt p K
