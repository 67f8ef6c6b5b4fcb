use Rattle.std.proofs.Common.{sym, ap, ◌∙◌, subst, Ok, Err, ◌+◌}
use Rattle.theory_meaning.specs.Edit as edit
use Rattle.theory_syntax.specs.Plain.{op_of}
use Rattle.theory_model.specs.Changed.{lent_lines, place_of_line, IsChanged}
use Rattle.theory_model.specs.declared.changing.EditFault.TheVariants.{UnknownKey}
use Rattle.theory_model.proofs.ChangeLemmas.{dropped, not_dropped}
use Rattle.theory_model.proofs.changing.change.Goals as goal

pub returns-in-None-place_of : goal.returns-in-None-place_of
returns-in-None-place_of c =
    let key = c.in-Drop.key in
    let lines = c.args.lines.now.items in
    let fault = c.number_of-in-None-place_of.result in
    let missing = ap (λ items. place_of_line key (lent_lines items)) (sym c.deref.ensures.value) ∙ sym c.place_of.ensures.place ∙ c.in-None-place_of.is in
    let refused = ap (λ o. edit.lines_after (c.args.k + 1) o (lent_lines lines)) (ap op_of c.in-Drop.is) ∙ not_dropped key lines (c.args.k + 1) missing in
    subst (λ wanted. IsChanged wanted (lent_lines lines) (Err (UnknownKey fault))) (sym refused) (ap UnknownKey c.number_of-in-None-place_of.ensures)

pub returns-in-Some-place_of : goal.returns-in-Some-place_of
returns-in-Some-place_of c =
    let key = c.in-Drop.key in
    let lines = c.args.lines.now.items in
    let place = c.in-Some-place_of.place in
    let found = ap (λ items. place_of_line key (lent_lines items)) (sym c.deref.ensures.value) ∙ sym c.place_of.ensures.place ∙ c.in-Some-place_of.is in
    let gone = ap (λ o. edit.lines_after (c.args.k + 1) o (lent_lines lines)) (ap op_of c.in-Drop.is) ∙ dropped key lines place (c.args.k + 1) found in
    subst (λ wanted. IsChanged wanted (lent_lines c.remove.new.self.items) (Ok tt)) (sym gone) (ap lent_lines c.remove.ensures.items)
