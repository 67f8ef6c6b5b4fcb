use Rattle.std.proofs.Common.{Bool, Ok, Err, subst, sym}
use Rattle.theory_session.specs.Accepted.{edit_of}
use Rattle.theory_versions.specs.declared.beginning.Unaccepted.{Unaccepted}
use Rattle.theory_versions.specs.declared.judged.Judged.{Judged}
use Rattle.theory_versions.specs.Beginning.{IsTaken}
use Rattle.theory_versions.specs.Book.{entries_in}
use Rattle.theory_versions.specs.Entries.{row_of, entry_of}
use Rattle.theory_versions.specs.Judging.{IsEditJudged}
use Rattle.theory_versions.proofs.RowLemmas.{IsOpsFormat, edit_judged, edit_added, edit_unaccepted, edit_repeated, edit_other, edit_misspelled, edit_next}
use Rattle.theory_versions.proofs.book.Book.behind_of.Goals as goal

pub returns-then-not-is_same_version : goal.returns-then-not-is_same_version
returns-then-not-is_same_version c =
    let es = entries_in c.args.self.now in
    let row = row_of c.args.row.now in
    let added = edit_added es row c.as_slice-body.result.now c.in-Ok-Addition.field-0 c.in-Ok-Addition.entry c.in-Ok-Addition.size c.as_slice-body.ensures
    c.in-Ok-Addition.field-0-is c.in-Ok-Addition.ensures in
    edit_other es row (entry_of c.in-Ok-Addition.entry) c.requires.later added.1.0 c.if-not-is_same_version.ensures

pub returns-in-Ok-true : goal.returns-in-Ok-true
returns-in-Ok-true c =
    let es = entries_in c.args.self.now in
    let row = row_of c.args.row.now in
    let added = edit_added es row c.as_slice-body.result.now c.in-Ok-Addition.field-0 c.in-Ok-Addition.entry c.in-Ok-Addition.size c.as_slice-body.ensures
    c.in-Ok-Addition.field-0-is c.in-Ok-Addition.ensures in
    let is = edit_next es row c.as_slice-body.result.now (entry_of c.in-Ok-Addition.entry) c.as_slice-body.ensures c.requires.id added.0 added.1.0
    c.if-not-is_same_version.ensures
    (subst (λ (t : Bool). IsOpsFormat row.format c.as_slice-body.result.now t) c.in-Ok-true.field-0-test c.in-Ok-true.ensures) in
    (is.0, is.1, added.1.1)

pub returns-in-Ok-false : goal.returns-in-Ok-false
returns-in-Ok-false c =
    edit_misspelled (entries_in c.args.self.now) (row_of c.args.row.now) c.as_slice-body.result.now c.as_slice-body.ensures c.requires.later
    (subst (λ (t : Bool). IsOpsFormat c.args.row.now.format c.as_slice-body.result.now t) c.in-Ok-false.field-0-test c.in-Ok-false.ensures)

pub returns : goal.returns
returns c =
    let es = entries_in c.args.self.now in
    let row = row_of c.args.row.now in
    subst (λ (why : Unaccepted). IsTaken es row (Err why)) (sym c.unedited.ensures)
    (edit_unaccepted es row c.in-Err.refusal c.requires.later
    (edit_judged es row c.as_slice-body.result.now (Err c.in-Err.refusal) c.as_slice-body.ensures c.in-Err.ensures))
