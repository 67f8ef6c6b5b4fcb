use Rattle.std.proofs.Common.{Ok, Err, subst, sym}
use Rattle.theory_session.specs.Accepted.{creation_of}
use Rattle.theory_versions.specs.declared.beginning.Unaccepted.{Unaccepted}
use Rattle.theory_versions.specs.declared.judged.Judged.{Judged}
use Rattle.theory_versions.specs.Beginning.{IsTaken}
use Rattle.theory_versions.specs.Book.{entries_in}
use Rattle.theory_versions.specs.Entries.{row_of, entry_of}
use Rattle.theory_versions.specs.Judging.{IsFirstJudged}
use Rattle.theory_versions.proofs.RowLemmas.{first_judged, first_added, first_unaccepted, first_repeated, first_other, first_misspelled, first_next}
use Rattle.theory_versions.proofs.book.Book.first_of.Goals as goal

pub returns-then-not-is_same_version : goal.returns-then-not-is_same_version
returns-then-not-is_same_version c =
    let es = entries_in c.args.self.now in
    let row = row_of c.args.row.now in
    let added = first_added es row c.as_slice.result.now c.in-Ok-Addition.field-0 c.in-Ok-Addition.entry c.in-Ok-Addition.size c.as_slice.ensures
    c.in-Ok-Addition.field-0-is c.in-Ok-Addition.ensures in
    first_other es row (entry_of c.in-Ok-Addition.entry) c.requires.first added.0 c.if-not-is_same_version.ensures

pub returns-then-not-is_text_format : goal.returns-then-not-is_text_format
returns-then-not-is_text_format c =
    let es = entries_in c.args.self.now in
    let row = row_of c.args.row.now in
    let added = first_added es row c.as_slice.result.now c.in-Ok-Addition.field-0 c.in-Ok-Addition.entry c.in-Ok-Addition.size c.as_slice.ensures
    c.in-Ok-Addition.field-0-is c.in-Ok-Addition.ensures in
    first_misspelled es row (entry_of c.in-Ok-Addition.entry) c.requires.first added.0 c.if-not-is_text_format.ensures

pub returns-in-Ok-Addition : goal.returns-in-Ok-Addition
returns-in-Ok-Addition c =
    let es = entries_in c.args.self.now in
    let row = row_of c.args.row.now in
    let added = first_added es row c.as_slice.result.now c.in-Ok-Addition.field-0 c.in-Ok-Addition.entry c.in-Ok-Addition.size c.as_slice.ensures
    c.in-Ok-Addition.field-0-is c.in-Ok-Addition.ensures in
    let is = first_next es row (entry_of c.in-Ok-Addition.entry) c.requires.id added.0 c.if-not-is_same_version.ensures c.if-not-is_text_format.ensures in
    (is.0, is.1, added.1)

pub returns-in-Ok-Repetition : goal.returns-in-Ok-Repetition
returns-in-Ok-Repetition c =
    let es = entries_in c.args.self.now in
    let row = row_of c.args.row.now in
    first_repeated es row c.in-Ok-Repetition.field-0-0 c.requires.first
    (subst (λ (j : Judged). IsFirstJudged es row.format (creation_of row) (Ok j)) c.in-Ok-Repetition.field-0-is
    (first_judged es row c.as_slice.result.now (Ok c.in-Ok-Repetition.field-0) c.as_slice.ensures c.in-Ok-Repetition.ensures))

pub returns : goal.returns
returns c =
    let es = entries_in c.args.self.now in
    let row = row_of c.args.row.now in
    subst (λ (why : Unaccepted). IsTaken es row (Err why)) (sym c.uncreated.ensures)
    (first_unaccepted es row c.in-Err.fault c.requires.first (first_judged es row c.as_slice.result.now (Err c.in-Err.fault) c.as_slice.ensures c.in-Err.ensures))
