use Rattle.theory_signed.proofs.KindTruth.{kind_truth}
use Rattle.theory_signed.proofs.laws_kind.each_kind_keeps_truth.Goals as goal

pub returns : goal.returns
returns c = λ k F p h. kind_truth p k F h
