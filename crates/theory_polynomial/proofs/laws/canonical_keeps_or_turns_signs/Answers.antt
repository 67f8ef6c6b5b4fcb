use Rattle.theory_polynomial.proofs.TurnedLaws.{canonical_kept, canonical_turned}
use Rattle.theory_polynomial.proofs.laws.canonical_keeps_or_turns_signs.Goals as goal

pub returns-clause-kept : goal.returns-clause-kept
returns-clause-kept c = canonical_kept

pub returns-clause-turned : goal.returns-clause-turned
returns-clause-turned c = canonical_turned
