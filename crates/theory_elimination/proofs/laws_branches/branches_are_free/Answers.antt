use Rattle.theory_elimination.proofs.FreeBranches.{branch_free}
use Rattle.theory_elimination.proofs.laws_branches.branches_are_free.Goals as goal

pub returns : goal.returns
returns c = λ x F k G w n. branch_free x F k G w n
