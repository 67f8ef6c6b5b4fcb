use Rattle.theory_tokens.proofs.LineLemmas.{behind_blanks}
use Rattle.theory_tokens.proofs.line.behind_blanks.Goals as goal

pub returns : goal.returns
returns c = behind_blanks _ _ _ c.split_run.ensures
