use Rattle.theory_signed.proofs.SignedTruth.{signed_truth}
use Rattle.theory_signed.proofs.laws_simplified.simplification_by_signs_keeps_truth.Goals as goal

pub returns : goal.returns
returns c = λ K F p h. signed_truth p K F h
