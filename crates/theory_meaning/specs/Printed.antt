-- The printed forms of fractions, verdicts and elimination orders. docs/PROTOCOL.md has them in words.
use Rattle.std.specs.Prelude.{ℕ, zero, suc, ◌+◌, List, [], ◌++◌, codes, decimal}
use Rattle.std.specs.Fmt.{signed_decimal}
use Rattle.theory_meaning.specs.declared.words.Kind.{Kind}
use Rattle.theory_meaning.specs.declared.words.Kind.TheVariants.{Listed, Rare, Unit, Signed}
use Rattle.theory_meaning.specs.declared.words.Verdict.{Verdict}
use Rattle.theory_meaning.specs.declared.words.Verdict.TheVariants.{Holds, Fails, Contradictory, Mixed, Undecided}
use Rattle.theory_meaning.specs.Fraction.{Fraction}

-- the denominator behind a slash, or nothing for a whole number
abbrev pub below_text : ℕ → List ℕ
below_text zero = []
below_text (suc less) = codes "/" ++ decimal (suc less + 1)

-- a fraction: the numerator, and the denominator where it isn't 1
abbrev pub fraction_text : Fraction → List ℕ
fraction_text q = signed_decimal q.num ++ below_text q.less

-- the printed word of a verdict
abbrev pub verdict_text : Verdict → List ℕ
verdict_text Holds = codes "true"
verdict_text Fails = codes "false"
verdict_text Contradictory = codes "contradictory"
verdict_text Mixed = codes "mixed"
verdict_text Undecided = codes "undecided"

-- the printed word of an elimination order
abbrev pub kind_text : Kind → List ℕ
kind_text Listed = codes "listed"
kind_text Rare = codes "rare"
kind_text Unit = codes "unit"
kind_text Signed = codes "signed"
