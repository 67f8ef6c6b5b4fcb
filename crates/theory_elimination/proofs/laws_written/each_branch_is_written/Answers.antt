use Rattle.theory_elimination.proofs.WrittenBranches.{branch_is_written}
use Rattle.theory_elimination.proofs.laws_written.each_branch_is_written.Goals as goal

pub returns : goal.returns
returns c = λ x F k h l. branch_is_written x F k h l
