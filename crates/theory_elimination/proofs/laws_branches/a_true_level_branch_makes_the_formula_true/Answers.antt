use Rattle.theory_elimination.proofs.LevelBranch.{level_is_true, stays_true}
use Rattle.theory_elimination.proofs.laws_branches.a_true_level_branch_makes_the_formula_true.Goals as goal

pub returns-clause-level : goal.returns-clause-level
returns-clause-level c x F k G p = level_is_true x p F k G

pub returns-clause-holds : goal.returns-clause-holds
returns-clause-holds c x F k G p = stays_true x p F k G
