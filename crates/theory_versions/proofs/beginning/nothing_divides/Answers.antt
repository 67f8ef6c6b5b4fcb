use Rattle.theory_meaning.specs.Divisors.{divisors_of_line}
use Rattle.theory_meaning.specs.Text.{Numbered}
use Rattle.theory_grammar.specs.RoundTrip.{NothingDivides}
use Rattle.theory_syntax.specs.Plain.{line_of, numbered_of}
use Rattle.theory_versions.proofs.DividingLemmas.{none_there, not_told, left_up, left_down}
use Rattle.theory_versions.proofs.beginning.nothing_divides.Goals as goal

pub loop-numbered-preserved : goal.loop-numbered-preserved
loop-numbered-preserved c =
    let lines = c.args.lines.now in
    let this = none_there (divisors_of_line (line_of c.numbered-item.result.line)) (λ some. not_told c.divides.result c.if-divides.false (c.divides.ensures.1 some)) in
    record {
      up = left_up (λ (n : Numbered). NothingDivides n.line) numbered_of lines c.loop-numbered.numbered-index c.numbered-item.result c.loop-numbered-test.true
          c.numbered-item.is this c.loop-numbered.invariant.up;
      down = left_down (λ (n : Numbered). NothingDivides n.line) numbered_of lines c.loop-numbered.numbered-index c.numbered-item.result
          c.loop-numbered-test.true c.numbered-item.is c.loop-numbered.invariant.down;
    }
