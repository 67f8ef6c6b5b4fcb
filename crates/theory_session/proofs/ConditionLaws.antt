-- A condition that is right of the counterexample sentence is right of the model.
use Rattle.std.proofs.Common.{List, Option, ⊎_elim}
use Rattle.std.proofs.lemmas.Bool.{both_ways, cases_Bool}
use Rattle.theory_meaning.specs.Model.{MeetsWith, IsCounter, IsRightCondition}
use Rattle.theory_meaning.specs.Point.{Name, Point}
use Rattle.theory_meaning.specs.Question.{IsTrueAt}
use Rattle.theory_meaning.specs.Region.{Region, known, unknown, AgreeOn, IsRightRegion}
use Rattle.theory_meaning.specs.Text.{Numbered}
use Rattle.theory_meaning.specs.Tree.{Claim}
use Rattle.theory_meaning.specs.Truth.{truth_of, Meets}
use Rattle.theory_derivative.specs.Sentence.{counter_of}
use Rattle.theory_derivative.proofs.SentenceLaws.{counters_meet_their_sentence}
use Rattle.theory_session.specs.Answered.{IsRightOfModel}
use Rattle.theory_session.specs.Names.{each_once}
use Rattle.theory_session.proofs.NameLaws.{once_among, among_each_once}

-- points agree on names where they do on each once, and the other way round
pub agree_once : (on : List Name) (p q : Point) → AgreeOn on p q → AgreeOn (each_once on) p q
agree_once on p q h x c = h x (once_among on x c)

pub agree_each : (on : List Name) (p q : Point) → AgreeOn (each_once on) p q → AgreeOn on p q
agree_each on p q h x c = h x (among_each_once on x c)

module _ (lines : List Numbered) (shift : Option Name) (c : Claim) (on : List Name) where
  -- where no point meets the sentence, each that meets the model makes the claim true, and the other way round
  true_of : (q : Point) → ¬ Meets (counter_of lines shift c) q → MeetsWith lines shift c q → IsTrueAt c q
  true_of q none met =
      ⊎_elim (λ h. h) (λ h. absurd (none ((counters_meet_their_sentence lines shift c q).1 (met, both_ways (truth_of c q) h)))) (cases_Bool (truth_of c q))

  unmet : (q : Point) → (MeetsWith lines shift c q → IsTrueAt c q) → ¬ Meets (counter_of lines shift c) q
  unmet q holds met = let counter : IsCounter lines shift c q = (counters_meet_their_sentence lines shift c q).0 met in counter.1 (holds counter.0)

  -- a known condition
  pub right_condition : (condition : Claim) → IsRightRegion (counter_of lines shift c) (each_once on) (known condition)
      → IsRightCondition lines shift c on condition
  right_condition condition h = record {
    names_only = λ x k. once_among on x (h.0 x k);
    right = λ p. (
      λ holds q agree. true_of q ((h.1 p).0 holds q (agree_once on p q agree)),
      λ all. (h.1 p).1 (λ q agree. unmet q (all q (agree_each on p q agree))),
    );
  }

  -- and one that isn't known
  pub right_region : (r : Region) → IsRightRegion (counter_of lines shift c) (each_once on) r → IsRightOfModel lines shift c on r
  right_region (known condition) h = right_condition condition h
  right_region (unknown cause) h = tt
