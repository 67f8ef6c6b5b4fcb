use Rattle.std.proofs.Common.{◌<◌, [], length, sym, ap, Some, ◌∙◌, arith}
use Rattle.std.proofs.lemmas.List.{length-map, get_or-map}
use Rattle.theory_meaning.specs.Text as text
use Rattle.theory_syntax.specs.Plain.{lines_of, numbered_of}
use Rattle.theory_model.proofs.FaultLemmas.{none_beyond, first_beyond}
use Rattle.theory_model.proofs.KeyedLemmas.{some_numbered}
use Rattle.theory_model.proofs.checking.too_many_lines.Goals as goal

pub returns-then-lines-gt-MOST_LINES : goal.returns-then-lines-gt-MOST_LINES
returns-then-lines-gt-MOST_LINES c =
    let lines = c.args.lines.now in
    let long : 200 < length lines = omega (arith, c.if-lines-gt-MOST_LINES.true) in
    let within : 200 < length (lines_of lines) = omega (arith, long, length-map lines numbered_of) in
    ap (λ (n : text.Numbered). Some n.at) (sym (get_or-map numbered_of lines 200 c.index-lines-200.result some_numbered long))
    ∙ sym (first_beyond (lines_of lines) [] (lines_of lines) 200 some_numbered (omega arith) within)

pub returns-else-lines-gt-MOST_LINES : goal.returns-else-lines-gt-MOST_LINES
returns-else-lines-gt-MOST_LINES c =
    let lines = c.args.lines.now in
    sym (none_beyond (lines_of lines) [] (lines_of lines) (omega (arith, c.if-lines-gt-MOST_LINES.false, length-map lines numbered_of)))
