use Rattle.theory_elimination.proofs.SingleBranches.{formula_at_single, branch_single}
use Rattle.theory_elimination.proofs.laws_branches.branches_are_single.Goals as goal

pub returns-clause-at_point : goal.returns-clause-at_point
returns-clause-at_point c = formula_at_single

pub returns-clause-branch : goal.returns-clause-branch
returns-clause-branch c = branch_single
