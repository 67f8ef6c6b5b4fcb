use Rattle.std.proofs.Common.{◌≡◌, Ok, refl, sym, subst}
use Rattle.theory_session.specs.Row.{present_format}
use Rattle.theory_versions.specs.declared.judged.Judged.{Judged}
use Rattle.theory_versions.specs.Entries.{entry_of, entries_of}
use Rattle.theory_versions.specs.Judging.{IsEditJudged}
use Rattle.theory_versions.specs.Replies.{edit_reply}
use Rattle.theory_versions.proofs.StepLemmas.{edit_refused, edit_repeated, edit_added, late_next}
use Rattle.theory_versions.proofs.ledger.Ledger.edit.Goals as goal

pub add_next-requires-clause-next : goal.add_next-requires-clause-next
add_next-requires-clause-next g c =
    late_next (entries_of c.args.self.now.entries)
    (record { model = c.args.model.now; base = c.args.base; id = c.args.id.now; body = c.args.body.now }) (entry_of c.in-Ok-Addition.entry)
    c.requires.id (subst (λ (j : Judged). IsEditJudged (entries_of c.args.self.now.entries) present_format
    (record { model = c.args.model.now; base = c.args.base; id = c.args.id.now; body = c.args.body.now }) (Ok j)) c.in-Ok-Addition.field-0-is c.in-Ok-Addition.ensures).0 (subst (λ (j : Judged). IsEditJudged (entries_of c.args.self.now.entries) present_format
    (record { model = c.args.model.now; base = c.args.base; id = c.args.id.now; body = c.args.body.now }) (Ok j)) c.in-Ok-Addition.field-0-is c.in-Ok-Addition.ensures).1.0

pub returns-in-Err-clause-step : goal.returns-in-Err-clause-step
returns-in-Err-clause-step g c =
    edit_refused (entries_of c.args.self.now.entries)
    (record { model = c.args.model.now; base = c.args.base; id = c.args.id.now; body = c.args.body.now }) c.in-Err.refusal c.in-Err.ensures

pub returns-in-Ok-Repetition-clause-step : goal.returns-in-Ok-Repetition-clause-step
returns-in-Ok-Repetition-clause-step g c =
    edit_repeated (entries_of c.args.self.now.entries)
    (record { model = c.args.model.now; base = c.args.base; id = c.args.id.now; body = c.args.body.now }) c.in-Ok-Repetition.made
    (record { model = c.in-Ok-Repetition.made.model; version = c.in-Ok-Repetition.made.version }) refl refl
    (subst (λ (j : Judged). IsEditJudged (entries_of c.args.self.now.entries) present_format
    (record { model = c.args.model.now; base = c.args.base; id = c.args.id.now; body = c.args.body.now }) (Ok j)) c.in-Ok-Repetition.field-0-is c.in-Ok-Repetition.ensures)

pub returns-in-Ok-Addition-clause-step : goal.returns-in-Ok-Addition-clause-step
returns-in-Ok-Addition-clause-step g c =
    edit_added (entries_of c.args.self.now.entries) (entries_of c.add_next.new.self.entries)
    (record { model = c.args.model.now; base = c.args.base; id = c.args.id.now; body = c.args.body.now })
    c.in-Ok-Addition.entry (edit_reply c.add_next.result) (subst (λ (j : Judged). IsEditJudged (entries_of c.args.self.now.entries) present_format
    (record { model = c.args.model.now; base = c.args.base; id = c.args.id.now; body = c.args.body.now }) (Ok j)) c.in-Ok-Addition.field-0-is c.in-Ok-Addition.ensures).0 (subst (λ (j : Judged). IsEditJudged (entries_of c.args.self.now.entries) present_format
    (record { model = c.args.model.now; base = c.args.base; id = c.args.id.now; body = c.args.body.now }) (Ok j)) c.in-Ok-Addition.field-0-is c.in-Ok-Addition.ensures).1.0 c.add_next.ensures.answer
