use Rattle.std.proofs.Common.{refl}
use Rattle.std.specs.Fmt.{digits}
use Rattle.theory_session.proofs.TaxCondition.{same_condition}
use Rattle.theory_session.proofs.laws.worked_condition.Goals as goal

pub returns-clause-same : goal.returns-clause-same
returns-clause-same c = same_condition

pub returns-clause-printed : goal.returns-clause-printed
unfolding digits
returns-clause-printed c = refl

pub returns-clause-short : goal.returns-clause-short
unfolding digits
returns-clause-short c = refl
