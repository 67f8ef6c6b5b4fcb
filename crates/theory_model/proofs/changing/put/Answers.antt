use Rattle.std.proofs.Common.{sym, ap, ◌∙◌}
use Rattle.theory_model.specs.Changed.{lent_lines, place_of_line}
use Rattle.theory_model.proofs.ChangeLemmas.{put_in_place, put_at_end}
use Rattle.theory_model.proofs.changing.put.Goals as goal

pub returns-in-Some : goal.returns-in-Some
returns-in-Some c =
    let key = c.args.key.now in
    let found = ap (λ lines. place_of_line key (lent_lines lines)) (sym c.deref.ensures.value) ∙ sym c.place_of.ensures.place ∙ c.in-Some.is in
    put_in_place key c.args.lines.now.items c.in-Some.place c.args.line found

pub returns-in-Ok : goal.returns-in-Ok
returns-in-Ok c =
    let key = c.args.key.now in
    let missing = ap (λ lines. place_of_line key (lent_lines lines)) (sym c.deref.ensures.value) ∙ sym c.place_of.ensures.place ∙ c.in-None.is in
    ap lent_lines c.in-Ok.ensures.items ∙ put_at_end key c.args.lines.now.items c.args.line missing
