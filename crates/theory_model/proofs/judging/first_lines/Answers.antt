use Rattle.std.proofs.Common.{◌+◌, drop, sym, ap, ◌∙◌}
use Rattle.theory_syntax.specs.Plain.{lines_of, numbered_of}
use Rattle.theory_model.specs.Checked.{found_first}
use Rattle.theory_model.proofs.FaultLemmas.{firsts_with, firsts_step}
use Rattle.theory_model.proofs.KeyedLemmas.{below_next}
use Rattle.theory_model.proofs.judging.first_lines.Goals as goal

pub loop-numbered-preserved : goal.loop-numbered-preserved
loop-numbered-preserved c =
    let lines = lines_of c.args.keys.now.lines.now in
    let items = c.lines-numbered-items.result.now in
    let k = c.loop-numbered.numbered-index in
    let item = c.numbered-item.result in
    let rest = lines_of (drop (k + 1) items) in
    let firsts = c.loop-numbered.firsts in
    ap (λ f. firsts_with lines f rest) (c.with_line-firsts.ensures ∙ ap (λ g. found_first firsts g item.at) c.line_faults-faults.ensures)
    ∙ firsts_step lines firsts (numbered_of item) rest
    ∙ ap (firsts_with lines firsts) (sym (below_next items k item c.loop-numbered-test.true c.numbered-item.is))
    ∙ c.loop-numbered.invariant
