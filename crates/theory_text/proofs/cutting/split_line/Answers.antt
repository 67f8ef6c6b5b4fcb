use Rattle.theory_text.proofs.CutLemmas.{last_line, next_line}
use Rattle.theory_text.proofs.cutting.split_line.Goals as goal

pub returns-in-empty : goal.returns-in-empty
returns-in-empty c = last_line _ _ _ c.split_at_feed.ensures c.in-empty.len_below c.requires.some

pub returns-in-len1-up : goal.returns-in-len1-up
returns-in-len1-up c = next_line _ _ _ c.split_at_feed.ensures c.in-len1-up.len_at_least
