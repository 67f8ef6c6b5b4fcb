-- The written sentences of the claim under a label are met exactly at its examples and its counterexamples.
use Rattle.std.proofs.Common.{◌≡◌, List, Option, Some, Result, Ok, Err, IfOk, sym, subst}
use Rattle.std.specs.Prelude.{◌↔◌, IfSome}
use Rattle.theory_meaning.specs.Model.{IsExample, IsCounter}
use Rattle.theory_meaning.specs.Point.{Name}
use Rattle.theory_meaning.specs.Text.{Numbered}
use Rattle.theory_meaning.specs.Tree as plain
use Rattle.theory_meaning.specs.Truth.{Meets}
use Rattle.theory_derivative.specs.Sentence.{claim_in}
use Rattle.theory_derivative.proofs.SentenceLaws.{examples_meet_their_sentence, counters_meet_their_sentence}
use Rattle.theory_points.specs.declared.limit.NoMemory.{NoMemory}
use Rattle.theory_syntax.specs.declared.claim.Sentence.{Sentence}
use Rattle.theory_statics.specs.Asked.{OfClaim, AreWritten, AreMetExactly}

met_exactly : (lines : List Numbered) (shift : Option Name) (c : plain.Claim) (both : Sentence × Sentence)
    → AreWritten lines shift c both → AreMetExactly lines shift c both
met_exactly lines shift c both h =
    record {
      example = λ p. subst (λ cs. Meets cs p ↔ IsExample lines shift c p) (sym h.example) (examples_meet_their_sentence lines shift c p);
      counter = λ p. subst (λ cs. Meets cs p ↔ IsCounter lines shift c p) (sym h.counter) (counters_meet_their_sentence lines shift c p);
    }

-- the same of the claim under a label
pub label_met : (lines all : List Numbered) (label : Name) (asked : Option Name × plain.Claim) (result : Result (Sentence × Sentence) NoMemory)
    → lines ≡ all → Some asked ≡ claim_in lines label → IfOk result (AreWritten lines asked.0 asked.1)
    → IfOk result (λ both. OfClaim all label (λ shift c. AreMetExactly all shift c both))
label_met lines all label asked (Ok both) same is h =
    subst (λ ls. OfClaim ls label (λ shift c. AreMetExactly ls shift c both)) same
    (subst (λ o. IfSome o (λ a. AreMetExactly lines a.0 a.1 both)) is (met_exactly lines asked.0 asked.1 both h))
label_met lines all label asked (Err e) same is h = tt
