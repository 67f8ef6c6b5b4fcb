-- A question about a claim of a model, and its answer or why it is refused.
use Rattle.std.specs.Prelude.{ℕ, List, Option}
use Rattle.theory_meaning.specs.declared.words.Kind.{Kind}
use Rattle.theory_meaning.specs.declared.words.Verdict.{Verdict}
use Rattle.theory_meaning.specs.Half.{Half}
use Rattle.theory_meaning.specs.Point.{Name}
use Rattle.theory_meaning.specs.Region.{Region}

-- a question: which claim of which version of a model, on which names the condition is wanted, and by which order
pub record Question : Type 0 where
  pub model : Name
  pub version : ℕ
  pub claim : Name
  pub on : List Name
  pub kind : Kind

-- the answer to a question
pub record Answer : Type 0 where
  pub model : Name
  pub version : ℕ
  pub claim : Name
  pub symbols : List Name
  pub example : Half
  pub counter : Half
  pub verdict : Verdict
  pub region : Option Region

-- why a question is refused, in the order of the checks: the model has no such version, but a last one of this number;
-- the name at this place, from 1, is no listed symbol of the claim
pub data AskFault : Type 0 where
  unknown_model : AskFault
  unknown_version : ℕ → AskFault
  unknown_claim : AskFault
  unknown_name : ℕ → AskFault
