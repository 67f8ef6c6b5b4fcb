-- The two sentences of the claim under a label: what is written, and where each is met.
use Rattle.std.specs.Prelude.{◌≡◌, ◌↔◌, ◌≤◌, List, length, Option, IfSome}
use Rattle.std.specs.Borrow.{Bor}
use Rattle.theory_meaning.specs.Model.{IsExample, IsCounter}
use Rattle.theory_meaning.specs.ModelFault.{most_symbols}
use Rattle.theory_meaning.specs.Point.{Name, Point, AreDistinct}
use Rattle.theory_meaning.specs.Text.{Numbered}
use Rattle.theory_meaning.specs.Tree as plain
use Rattle.theory_meaning.specs.Truth.{Meets}
use Rattle.theory_derivative.specs.Meaning.{HoldOnly}
use Rattle.theory_derivative.specs.Sentence.{claim_in, example_of, counter_of}
use Rattle.theory_syntax.specs.declared.claim.Claim.{Claim}
use Rattle.theory_syntax.specs.declared.claim.Sentence.{Sentence}
use Rattle.theory_syntax.specs.Plain.{claim_of, claims_of}

-- a claim with its shift, as both stand in a line
abbrev pub asked_of : Bor (Option Name) × Bor Claim → Option Name × plain.Claim
asked_of found = (found.0.now, claim_of found.1.now)

-- the conjuncts of a sentence
abbrev pub conjuncts_of : Sentence → List plain.Claim
conjuncts_of s = claims_of s.conjuncts.items

-- the fact is true of the claim under the label, and of its shift
abbrev pub OfClaim : List Numbered → Name → (Option Name → plain.Claim → Type 0) → Type 0
OfClaim lines label Fact = IfSome (claim_in lines label) (λ asked. Fact asked.0 asked.1)

-- the conjuncts are exactly the written ones
pub record AreWritten (lines : List Numbered) (shift : Option Name) (c : plain.Claim) (both : Sentence × Sentence) : Type 0 where
  pub example : conjuncts_of both.0 ≡ example_of lines shift c
  pub counter : conjuncts_of both.1 ≡ counter_of lines shift c

-- both list these symbols
pub record BothList (symbols : List Name) (both : Sentence × Sentence) : Type 0 where
  pub example : both.0.symbols ≡ symbols
  pub counter : both.1.symbols ≡ symbols

-- each is met exactly at the examples, or the counterexamples, of the model
pub record AreMetExactly (lines : List Numbered) (shift : Option Name) (c : plain.Claim) (both : Sentence × Sentence) : Type 0 where
  pub example : (p : Point) → Meets (conjuncts_of both.0) p ↔ IsExample lines shift c p
  pub counter : (p : Point) → Meets (conjuncts_of both.1) p ↔ IsCounter lines shift c p

-- what deciding wants of a sentence: few symbols, each listed once, and no others in the conjuncts
pub record IsReady (s : Sentence) : Type 0 where
  pub few : length s.symbols ≤ most_symbols
  pub distinct : AreDistinct s.symbols
  pub listed : HoldOnly s.symbols (conjuncts_of s)
