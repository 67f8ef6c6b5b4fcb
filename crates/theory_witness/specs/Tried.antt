-- The values that are tried, part by part.
use Rattle.std.specs.Prelude.{◌≡◌, List, ◌++◌}
use Rattle.theory_meaning.specs.Fraction.{Fraction}
use Rattle.theory_decision.specs.Candidates.{AreMiddles, AreEnds}

-- the middles of neighbours are added at the end
abbrev pub AddsMiddles : List Fraction → List Fraction → List Fraction → Type 0
AddsMiddles bs old new = (ms : List Fraction) × AreMiddles bs ms × (new ≡ old ++ ms)

-- the whole numbers at both ends are added at the end
abbrev pub AddsEnds : List Fraction → List Fraction → List Fraction → Type 0
AddsEnds bs old new = (es : List Fraction) × AreEnds bs es × (new ≡ old ++ es)
