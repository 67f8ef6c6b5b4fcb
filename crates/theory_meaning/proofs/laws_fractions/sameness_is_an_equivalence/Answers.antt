use Rattle.theory_meaning.proofs.OrderLaws.{same_itself, same_turned, same_trans}
use Rattle.theory_meaning.proofs.laws_fractions.sameness_is_an_equivalence.Goals as goal

pub returns-clause-reflexive : goal.returns-clause-reflexive
returns-clause-reflexive c = same_itself

pub returns-clause-symmetric : goal.returns-clause-symmetric
returns-clause-symmetric c = same_turned

pub returns-clause-transitive : goal.returns-clause-transitive
returns-clause-transitive c = same_trans
