use Rattle.std.proofs.Common.{◌∙◌}
use Rattle.theory_cli.proofs.CheckLemmas.{told_unread}
use Rattle.theory_cli.proofs.report.report.Goals as goal

pub returns-in-Ok-unread : goal.returns-in-Ok-unread
returns-in-Ok-unread g c =
    told_unread (c.args.file.now) c.args.stop _ _ _ _ c.in-Unread.is (c.as_slice-in-Ok-unread.ensures ∙ c.in-Ok-unread.ensures)
    c.write_line-in-Ok-unread.ensures
