use Rattle.theory_derivative.proofs.SentenceNames.{labels_are_single}
use Rattle.theory_derivative.proofs.laws.labels_of_claims_are_single.Goals as goal

pub returns : goal.returns
returns c = labels_are_single
