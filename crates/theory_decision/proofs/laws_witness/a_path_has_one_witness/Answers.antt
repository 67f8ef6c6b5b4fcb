use Rattle.theory_decision.proofs.OneWitness.{witness_single, witness_not_wide}
use Rattle.theory_decision.proofs.laws_witness.a_path_has_one_witness.Goals as goal

pub returns-clause-same : goal.returns-clause-same
returns-clause-same c = λ n path g h p q w v. (witness_single n path g h p q w v).1

pub returns-clause-wide : goal.returns-clause-wide
returns-clause-wide c = witness_not_wide
