use Rattle.theory_tokens.proofs.NextLemmas.{mark_takes}
use Rattle.theory_tokens.proofs.next.sign_first.Goals as goal

pub returns-in-Some : goal.returns-in-Some
returns-in-Some c = mark_takes c.in-Some.mark _ _ c.in-Some.ensures
