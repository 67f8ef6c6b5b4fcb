use Rattle.theory_elimination.proofs.BranchLaws.{some_branch_is_true}
use Rattle.theory_elimination.proofs.laws_branches.a_true_formula_has_a_branch.Goals as goal

pub returns : goal.returns
returns c = λ x F p l t. some_branch_is_true x p F l t
