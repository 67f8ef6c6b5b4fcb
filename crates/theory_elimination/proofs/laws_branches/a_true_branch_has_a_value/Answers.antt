use Rattle.theory_elimination.proofs.BranchLaws.{branch_has_value}
use Rattle.theory_elimination.proofs.laws_branches.a_true_branch_has_a_value.Goals as goal

pub returns : goal.returns
returns c = λ x F k G p l b t. branch_has_value x p F k G l b t
