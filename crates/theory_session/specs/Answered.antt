-- Which answer may come to a question about a claim of a model, and when the question is refused.
use Rattle.std.specs.Prelude.{◌≡◌, Bool, true, false, List, [], ◌∷◌, Option, Some, None, is_some, option_map, IfSome}
use Rattle.theory_meaning.specs.declared.words.Verdict.{Verdict}
use Rattle.theory_meaning.specs.declared.words.Verdict.TheVariants.{Mixed}
use Rattle.theory_meaning.specs.Declarations.{listed_in}
use Rattle.theory_meaning.specs.Deciding.{Meanings, IsHalf, IsRegion}
use Rattle.theory_meaning.specs.Model.{IsRightAnswer, IsRightCondition}
use Rattle.theory_meaning.specs.Point.{Name}
use Rattle.theory_meaning.specs.Region.{Region, known, unknown}
use Rattle.theory_meaning.specs.Text.{Numbered}
use Rattle.theory_meaning.specs.Tree.{Claim}
use Rattle.theory_meaning.specs.Verdict.{verdict_of_halves}
use Rattle.theory_derivative.specs.Sentence.{claim_in, example_of, counter_of}
use Rattle.theory_session.specs.Ask.{Question, Answer, AskFault, unknown_name}
use Rattle.theory_session.specs.Names.{each_once, first_unlisted}

-- the verdict is mixed
abbrev pub is_mixed : Verdict → Bool
is_mixed Mixed = true
is_mixed _ = false

-- a condition is told where names are chosen and the claim is mixed
abbrev pub tells_region : List Name → Verdict → Bool
tells_region [] v = false
tells_region (n ∷ ns) v = is_mixed v

-- a known condition is right of the model
abbrev pub IsRightOfModel : List Numbered → Option Name → Claim → List Name → Region → Type 0
IsRightOfModel lines shift c on (known condition) = IsRightCondition lines shift c on condition
IsRightOfModel lines shift c on (unknown cause) = Unit {0}

-- the answer to a question about a model of these lines, by a decider: a half for each of the two written sentences of the
-- claim by the order of the question, the table's verdict, a condition by the counterexample's sentence where one is told,
-- and all of it right of the model
pub record IsAnswer (m : Meanings) (lines : List Numbered) (q : Question) (a : Answer) : Type 0 where
  -- the parameter that the claim shifts, if any, and what is claimed
  pub shift : Option Name
  pub claimed : Claim
  pub own : claim_in lines q.claim ≡ Some (shift, claimed)
  pub model_is : a.model ≡ q.model
  pub version_is : a.version ≡ q.version
  pub claim_is : a.claim ≡ q.claim
  pub symbols_are : a.symbols ≡ listed_in (is_some shift) lines
  pub example_is : IsHalf m (listed_in (is_some shift) lines) (example_of lines shift claimed) q.kind a.example
  pub counter_is : IsHalf m (listed_in (is_some shift) lines) (counter_of lines shift claimed) q.kind a.counter
  pub verdict_is : a.verdict ≡ verdict_of_halves a.example a.counter
  pub right : IsRightAnswer lines shift claimed a.example a.counter a.verdict
  pub region_there : is_some a.region ≡ tells_region q.on a.verdict
  pub region_is : IfSome a.region (λ r. IsRegion m (listed_in (is_some shift) lines) (counter_of lines shift claimed) (each_once q.on) q.kind r)
  pub region_right : IfSome a.region (λ r. IsRightOfModel lines shift claimed q.on r)

-- the listed symbols of a claim with its shift, if there is one
abbrev pub symbols_for : List Numbered → Option (Option Name × Claim) → List Name
symbols_for lines None = []
symbols_for lines (Some own) = listed_in (is_some own.0) lines

-- why a question is refused, if it is: a name on which the condition is wanted is no listed symbol of the claim
abbrev pub fault_in : List Numbered → Question → Option AskFault
fault_in lines q = option_map unknown_name (first_unlisted (symbols_for lines (claim_in lines q.claim)) q.on)
