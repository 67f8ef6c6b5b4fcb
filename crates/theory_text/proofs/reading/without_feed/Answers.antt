use Rattle.std.proofs.Common.{refl}
use Rattle.theory_text.proofs.CutLemmas.{feed_told, no_feed}
use Rattle.theory_text.proofs.reading.without_feed.Goals as goal

pub returns-then-is_empty : goal.returns-then-is_empty
returns-then-is_empty g c = (refl, no_feed _ _ _ c.split_at_feed.ensures c.if-is_empty.ensures)

pub returns-else-is_empty : goal.returns-else-is_empty
returns-else-is_empty g c = feed_told _ _ _ _ c.split_at_feed.ensures c.if-is_empty.ensures c.error_in_line_1.ensures
