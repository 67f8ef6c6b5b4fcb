-- The simplified form by each elimination order. Source: this project's own.
use Rattle.std.specs.Prelude.{[]}
use Rattle.theory_meaning.specs.declared.words.Kind.{Kind}
use Rattle.theory_meaning.specs.declared.words.Kind.TheVariants as kind
use Rattle.theory_formula.specs.Formula.{Formula}
use Rattle.theory_elimination.specs.Judging.{Judging, by_known}
use Rattle.theory_elimination.specs.Simplified.{simplified_by}
use Rattle.theory_signed.specs.Split.{split}
use Rattle.theory_signed.specs.Signed.{by_known_and_signs}

-- how conditions are judged
abbrev pub judging : Kind → Judging
judging kind.Listed = by_known
judging kind.Rare = by_known
judging kind.Unit = by_known
judging kind.Signed = by_known_and_signs

-- what is simplified
abbrev pub prepared : Kind → Formula → Formula
prepared kind.Listed F = F
prepared kind.Rare F = F
prepared kind.Unit F = F
prepared kind.Signed F = split F

-- the simplified form
abbrev pub simplified_for : Kind → Formula → Formula
simplified_for k F = simplified_by (judging k) [] (prepared k F)
