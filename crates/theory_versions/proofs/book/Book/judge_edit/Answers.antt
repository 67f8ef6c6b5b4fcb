use Rattle.std.proofs.Common.{rules, refl}
use Rattle.theory_session.specs.Editing.{EditRequest}
use Rattle.theory_versions.specs.Book.{entries_in}
use Rattle.theory_versions.specs.Entries.{entry_of}
use Rattle.theory_versions.proofs.JudgingLemmas.{earlier_decides}
use Rattle.theory_versions.proofs.book.Book.judge_edit.Goals as goal

pub returns-in-Ok-Some : goal.returns-in-Ok-Some
returns-in-Ok-Some c =
    let r : EditRequest = record { model = c.args.model.now; base = c.args.base; id = c.args.id.now; body = c.args.body.now } in
    earlier_decides (entries_in c.args.self.now) c.args.format r (entry_of c.in-Ok-Some.old.now) c.earlier.result
    (search rules) (search rules) (c.earlier.ensures r refl refl)
