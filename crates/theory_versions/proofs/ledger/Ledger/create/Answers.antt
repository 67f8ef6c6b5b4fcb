use Rattle.std.proofs.Common.{◌≡◌, Ok, refl, sym, subst}
use Rattle.theory_session.specs.Row.{present_format}
use Rattle.theory_versions.specs.declared.judged.Judged.{Judged}
use Rattle.theory_versions.specs.Entries.{entry_of, entries_of}
use Rattle.theory_versions.specs.Judging.{IsFirstJudged}
use Rattle.theory_versions.specs.Replies.{create_reply}
use Rattle.theory_versions.proofs.StepLemmas.{first_refused, first_repeated, first_added, first_next}
use Rattle.theory_versions.proofs.ledger.Ledger.create.Goals as goal

pub add_first-requires-clause-next : goal.add_first-requires-clause-next
add_first-requires-clause-next g c =
    first_next (entries_of c.args.self.now.entries) (record { id = c.args.id.now; body = c.args.body.now }) (entry_of c.in-Ok-Addition.entry)
    c.requires.id (subst (λ (j : Judged). IsFirstJudged (entries_of c.args.self.now.entries) present_format
    (record { id = c.args.id.now; body = c.args.body.now }) (Ok j)) c.in-Ok-Addition.field-0-is c.in-Ok-Addition.ensures).0

pub returns-in-Err-clause-step : goal.returns-in-Err-clause-step
returns-in-Err-clause-step g c =
    first_refused (entries_of c.args.self.now.entries) (record { id = c.args.id.now; body = c.args.body.now }) c.in-Err.fault c.in-Err.ensures

pub returns-in-Ok-Repetition-clause-step : goal.returns-in-Ok-Repetition-clause-step
returns-in-Ok-Repetition-clause-step g c =
    first_repeated (entries_of c.args.self.now.entries) (record { id = c.args.id.now; body = c.args.body.now }) c.in-Ok-Repetition.made
    (record { model = c.in-Ok-Repetition.made.model; version = c.in-Ok-Repetition.made.version }) refl refl
    (subst (λ (j : Judged). IsFirstJudged (entries_of c.args.self.now.entries) present_format
    (record { id = c.args.id.now; body = c.args.body.now }) (Ok j)) c.in-Ok-Repetition.field-0-is c.in-Ok-Repetition.ensures)

pub returns-in-Ok-Addition-clause-step : goal.returns-in-Ok-Addition-clause-step
returns-in-Ok-Addition-clause-step g c =
    first_added (entries_of c.args.self.now.entries) (entries_of c.add_first.new.self.entries) (record { id = c.args.id.now; body = c.args.body.now })
    c.in-Ok-Addition.entry (create_reply c.add_first.result) (subst (λ (j : Judged). IsFirstJudged (entries_of c.args.self.now.entries) present_format
    (record { id = c.args.id.now; body = c.args.body.now }) (Ok j)) c.in-Ok-Addition.field-0-is c.in-Ok-Addition.ensures).0 c.add_first.ensures.answer
