use Rattle.theory_tokens.proofs.NextLemmas.{word_next, pair_next, pair_within, pair_bytes}
use Rattle.theory_tokens.proofs.next.word_first.Goals as goal

pub before-whole-requires : goal.before-whole-requires
before-whole-requires c = pair_within _ _ _ _ _ _ c.split_run.ensures c.in-Some.ensures c.split_run-in-Some.ensures

pub pair_token-requires : goal.pair_token-requires
pair_token-requires c = pair_bytes _ _ _ _ _ _ _ c.split_run.ensures c.in-Some.ensures c.split_run-in-Some.ensures c.before-whole.ensures

pub returns-in-None : goal.returns-in-None
returns-in-None c = word_next _ _ _ _ c.found.result c.requires c.split_run.ensures c.in-None.ensures c.word_token.ensures c.found.ensures

pub returns-in-Some : goal.returns-in-Some
returns-in-Some c =
    pair_next _ _ _ _ _ _ _ c.found-in-Some.result c.requires c.split_run.ensures c.in-Some.ensures c.split_run-in-Some.ensures
    c.pair_token.ensures c.found-in-Some.ensures
