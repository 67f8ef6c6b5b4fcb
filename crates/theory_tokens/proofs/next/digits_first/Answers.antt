use Rattle.theory_tokens.proofs.NextLemmas.{digits_next}
use Rattle.theory_tokens.proofs.next.digits_first.Goals as goal

pub returns : goal.returns
returns c = digits_next _ _ _ _ c.found.result c.requires c.split_run.ensures c.number_token.ensures c.found.ensures
