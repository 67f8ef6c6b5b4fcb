use Rattle.theory_elimination.proofs.BranchAtoms.{branch_proper, branch_stays_free, branch_stays_named}
use Rattle.theory_elimination.proofs.laws_branches.branches_make_no_symbol.Goals as goal

pub returns-clause-proper : goal.returns-clause-proper
returns-clause-proper c = branch_proper

pub returns-clause-free : goal.returns-clause-free
returns-clause-free c = branch_stays_free

pub returns-clause-named : goal.returns-clause-named
returns-clause-named c = branch_stays_named
