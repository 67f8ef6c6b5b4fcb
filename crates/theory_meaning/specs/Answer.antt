-- What right halves say of a verdict, for any two tests of points and for the lines of a model.
use Rattle.std.specs.Prelude.{◌≡◌, Bool, List, Option, IsTrue}
use Rattle.theory_meaning.specs.declared.words.Verdict.{Verdict}
use Rattle.theory_meaning.specs.declared.words.Verdict.TheVariants.{Undecided}
use Rattle.theory_meaning.specs.Half.{Half, IsRightHalfOf}
use Rattle.theory_meaning.specs.Model.{IsExample, IsCounter, IsRightAnswer}
use Rattle.theory_meaning.specs.Point.{Name, Point}
use Rattle.theory_meaning.specs.Text.{Numbered}
use Rattle.theory_meaning.specs.Tree.{Claim}
use Rattle.theory_meaning.specs.Verdict.{verdict_of_halves, IsRightVerdict}

-- the test passes at the point
abbrev pub Passes : (Point → Bool) → Point → Type 0
Passes test p = IsTrue (test p)

-- where both halves are right, the verdict of the table is right
abbrev pub RightHalvesGiveTheRightVerdict : Type 0
RightHalvesGiveTheRightVerdict =
    (assumed claimed : Point → Bool) (example counter : Half)
    → IsRightHalfOf (λ p. Passes assumed p × Passes claimed p) example
    → IsRightHalfOf (λ p. Passes assumed p × ¬ Passes claimed p) counter
    → IsRightVerdict (Passes assumed) (Passes claimed) (verdict_of_halves example counter)

-- of the verdicts that leave nothing undecided at most one is right
abbrev pub OneVerdictIsRight : Type 0
OneVerdictIsRight =
    (assumed claimed : Point → Bool) (v w : Verdict) → ¬ (v ≡ Undecided) → ¬ (w ≡ Undecided)
    → IsRightVerdict (Passes assumed) (Passes claimed) v → IsRightVerdict (Passes assumed) (Passes claimed) w → v ≡ w

-- where both halves are right for the points asked for, the answer with the verdict of the table is right
abbrev pub RightHalvesGiveTheRightAnswer : Type 0
RightHalvesGiveTheRightAnswer =
    (lines : List Numbered) (shift : Option Name) (c : Claim) (example counter : Half)
    → IsRightHalfOf (IsExample lines shift c) example → IsRightHalfOf (IsCounter lines shift c) counter
    → IsRightAnswer lines shift c example counter (verdict_of_halves example counter)
