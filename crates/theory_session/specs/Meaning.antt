-- What the names of a question, and a condition on them, mean.
use Rattle.std.specs.Prelude.{◌≡◌, ℕ, ◌+◌, List, ◌∷◌, ◌++◌, Option, length, Contains}
use Rattle.theory_meaning.specs.Point.{Name}
use Rattle.theory_meaning.specs.Region.{Region, AreAmong, IsRightRegion}
use Rattle.theory_meaning.specs.Text.{Numbered}
use Rattle.theory_meaning.specs.Tree.{Claim}
use Rattle.theory_derivative.specs.Sentence.{counter_of}
use Rattle.theory_session.specs.Answered.{IsRightOfModel}
use Rattle.theory_session.specs.Names.{each_once}

-- the name at this place, from 1, isn't listed, and each before it is
pub record IsFirstUnlisted (listed names : List Name) (place : ℕ) : Type 0 where
  pub before : List Name
  pub name : Name
  pub behind : List Name
  pub parts : names ≡ before ++ name ∷ behind
  pub counted : place ≡ length before + 1
  pub listed_before : AreAmong before listed
  pub unlisted : ¬ Contains listed name

-- a condition on each name once that is right of the counterexample sentence is right of the model on the names
abbrev pub ConditionsOfSentencesAreRight : Type 0
ConditionsOfSentencesAreRight =
    (lines : List Numbered) (shift : Option Name) (c : Claim) (on : List Name) (r : Region)
    → IsRightRegion (counter_of lines shift c) (each_once on) r → IsRightOfModel lines shift c on r
