-- What the written derivative and the written sentences mean at every point.
use Rattle.std.specs.Prelude.{◌≡◌, ◌↔◌, ◌≤◌, List, length, Option, Some, is_some, IsTrue, Contains}
use Rattle.theory_meaning.specs.ModelFault.{most_symbols}
use Rattle.theory_meaning.specs.Edit.{IsModel, lines_alone}
use Rattle.theory_meaning.specs.Declarations.{symbols_of_claims, listed_in}
use Rattle.theory_meaning.specs.Divisors.{divisors_of_expr}
use Rattle.theory_meaning.specs.Fraction.{IsSame}
use Rattle.theory_meaning.specs.Half.{Half, IsRightHalf}
use Rattle.theory_meaning.specs.Model.{IsExample, IsCounter, IsRightAnswer}
use Rattle.theory_meaning.specs.Point.{Name, Point, AreDistinct}
use Rattle.theory_meaning.specs.Region.{AreAmong}
use Rattle.theory_meaning.specs.Slope.{slope_of}
use Rattle.theory_meaning.specs.Text.{Numbered}
use Rattle.theory_meaning.specs.Tree.{Expr, Claim, claim, claims_from}
use Rattle.theory_meaning.specs.Truth.{value_of, are_nonzero, Meets}
use Rattle.theory_meaning.specs.Verdict.{verdict_of_halves}
use Rattle.theory_derivative.specs.Derivative.{derivative}
use Rattle.theory_derivative.specs.Sentence.{example_of, counter_of, claim_in}

-- at every point the value of the written derivative is the slope
abbrev pub DerivativesAreSlopes : Type 0
DerivativesAreSlopes = (lines : List Numbered) (t : Name) (e : Expr) (p : Point) → IsSame (value_of (derivative lines t e) p) (slope_of lines t e p)

-- where no divisor of an expression is 0, none of its written derivative is
abbrev pub DerivativesKeepDivisors : Type 0
DerivativesKeepDivisors =
    (lines : List Numbered) (t : Name) (e : Expr) (p : Point)
    → IsTrue (are_nonzero (divisors_of_expr e) p) → IsTrue (are_nonzero (divisors_of_expr (derivative lines t e)) p)

-- the example sentence is met exactly where a point meets the model with the claim and makes the claim true
abbrev pub ExamplesMeetTheirSentence : Type 0
ExamplesMeetTheirSentence =
    (lines : List Numbered) (shift : Option Name) (c : Claim) (p : Point) → Meets (example_of lines shift c) p ↔ IsExample lines shift c p

-- the counterexample sentence is met exactly where a point meets the model with the claim and doesn't make the claim true
abbrev pub CountersMeetTheirSentence : Type 0
CountersMeetTheirSentence =
    (lines : List Numbered) (shift : Option Name) (c : Claim) (p : Point) → Meets (counter_of lines shift c) p ↔ IsCounter lines shift c p

-- where a half is right of each sentence, the answer with the verdict of the table is right of the model
abbrev pub SentencesGiveTheRightAnswer : Type 0
SentencesGiveTheRightAnswer =
    (lines : List Numbered) (shift : Option Name) (c : Claim) (example counter : Half)
    → IsRightHalf (example_of lines shift c) example → IsRightHalf (counter_of lines shift c) counter
    → IsRightAnswer lines shift c example counter (verdict_of_halves example counter)

-- each symbol in the claims is one of these names
abbrev pub HoldOnly : List Name → List Claim → Type 0
HoldOnly names cs = AreAmong (symbols_of_claims (claims_from cs)) names

-- what deciding wants of the sentences of a claim: few listed symbols, each once, and no others
pub record IsReadyForDeciding (lines : List Numbered) (shift : Option Name) (c : Claim) : Type 0 where
  pub few : length (listed_in (is_some shift) lines) ≤ most_symbols
  pub distinct : AreDistinct (listed_in (is_some shift) lines)
  pub example : HoldOnly (listed_in (is_some shift) lines) (example_of lines shift c)
  pub counter : HoldOnly (listed_in (is_some shift) lines) (counter_of lines shift c)

-- so it is with each claim of a model
abbrev pub SentencesAreReady : Type 0
SentencesAreReady =
    (lines : List Numbered) (label : Name) (shift : Option Name) (c : Claim)
    → IsModel lines → Contains (lines_alone lines) (claim label shift c) → IsReadyForDeciding lines shift c

-- in a model a claim is the one that stands under its label
abbrev pub LabelsAreSingle : Type 0
LabelsAreSingle =
    (lines : List Numbered) (label : Name) (shift : Option Name) (c : Claim)
    → IsModel lines → Contains (lines_alone lines) (claim label shift c) → claim_in lines label ≡ Some (shift, c)
