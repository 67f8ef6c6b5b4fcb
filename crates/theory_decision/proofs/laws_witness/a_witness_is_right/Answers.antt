use Rattle.theory_decision.proofs.WitnessTruth.{witness_is_right}
use Rattle.theory_decision.proofs.laws_witness.a_witness_is_right.Goals as goal

pub returns : goal.returns
returns c = λ kind n F path given p h m e w. (witness_is_right kind n F path given p h m e w).truth
