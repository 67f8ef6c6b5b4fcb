use Rattle.theory_decision.proofs.OneAnswer.{half_single, region_single}
use Rattle.theory_decision.proofs.laws_answers.written_answers_are_single.Goals as goal

pub returns-clause-half : goal.returns-clause-half
returns-clause-half c = λ kind ns cs h g w v. half_single ns cs kind h g w v

pub returns-clause-region : goal.returns-clause-region
returns-clause-region c = λ kind ns cs on_names r q w v. region_single ns cs kind on_names r q w v
