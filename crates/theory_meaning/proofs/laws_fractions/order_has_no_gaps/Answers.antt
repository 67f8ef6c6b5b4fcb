use Rattle.std.proofs.Common.{pos, negsuc, ◌+◌, unsigned_abs}
use Rattle.theory_meaning.proofs.OrderLaws.{mediant, below_mediant, mediant_below, whole_below, whole_above}
use Rattle.theory_meaning.proofs.laws_fractions.order_has_no_gaps.Goals as goal

pub returns-clause-dense : goal.returns-clause-dense
returns-clause-dense c q r h = (mediant q r, record { above = below_mediant q r h; under = mediant_below q r h })

pub returns-clause-below : goal.returns-clause-below
returns-clause-below c q = (negsuc (unsigned_abs q.num), whole_below q)

pub returns-clause-above : goal.returns-clause-above
returns-clause-above c q = (pos (unsigned_abs q.num + 1), whole_above q)
