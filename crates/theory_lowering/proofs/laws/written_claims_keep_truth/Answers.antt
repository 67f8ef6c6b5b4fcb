use Rattle.theory_lowering.proofs.WrittenLaws.{written_truth}
use Rattle.theory_lowering.proofs.laws.written_claims_keep_truth.Goals as goal

pub returns : goal.returns
returns c = written_truth
