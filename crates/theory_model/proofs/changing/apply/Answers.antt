use Rattle.std.proofs.Common.{sym, ap, ◌∙◌, subst}
use Rattle.theory_meaning.specs.Edit as edit
use Rattle.theory_meaning.specs.Edit.{HaveIdentifiers, lines_alone}
use Rattle.theory_syntax.specs.Plain.{lines_of, ops_of}
use Rattle.theory_model.specs.Changed.{lent_lines, carried_from}
use Rattle.theory_model.proofs.EditLemmas.{edited-identified, edited-fault, edited-model, changed_of}
use Rattle.theory_model.proofs.changing.apply.Goals as goal

pub check-requires : goal.check-requires
check-requires c =
    let lines = lines_of c.args.model.now in
    let are = c.in-Ok-numbered_by_place.ensures ∙ ap (λ items. carried_from 1 (lent_lines items)) c.deref.ensures.value in
    subst HaveIdentifiers (sym are) (edited-identified lines (ops_of c.args.ops.now) c.in-Ok.changed c.text_of.ensures.checked.identifiers c.requires
    (changed_of c.in-Ok.changed c.args.model.now c.as_slice-lines.result.now (ops_of c.args.ops.now)
    (c.as_slice-lines.ensures.value ∙ c.text_of.ensures.lines) c.in-Ok.ensures))

pub returns-in-Ok-check : goal.returns-in-Ok-check
returns-in-Ok-check c =
    let lines = lines_of c.args.model.now in
    let are = c.in-Ok-numbered_by_place.ensures ∙ ap (λ items. carried_from 1 (lent_lines items)) c.deref.ensures.value in
    edited-model (edit.changed_lines 1 (ops_of c.args.ops.now) (lines_alone lines)) c.in-Ok.changed c.in-Ok-numbered_by_place.numbered.items
    c.in-Ok-check.model
    (changed_of c.in-Ok.changed c.args.model.now c.as_slice-lines.result.now (ops_of c.args.ops.now)
    (c.as_slice-lines.ensures.value ∙ c.text_of.ensures.lines) c.in-Ok.ensures)
    are c.in-Ok-check.ensures

pub returns : goal.returns
returns c =
    let lines = lines_of c.args.model.now in
    let are = c.in-Ok-numbered_by_place.ensures ∙ ap (λ items. carried_from 1 (lent_lines items)) c.deref.ensures.value in
    edited-fault (edit.changed_lines 1 (ops_of c.args.ops.now) (lines_alone lines)) c.in-Ok.changed c.in-Ok-numbered_by_place.numbered.items
    c.in-Err-check.fault c.after.result
    (changed_of c.in-Ok.changed c.args.model.now c.as_slice-lines.result.now (ops_of c.args.ops.now)
    (c.as_slice-lines.ensures.value ∙ c.text_of.ensures.lines) c.in-Ok.ensures)
    are c.in-Err-check.ensures c.after.ensures
