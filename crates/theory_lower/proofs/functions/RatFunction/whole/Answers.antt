use Rattle.theory_lower.proofs.FunctionLaws.{one_fits}
use Rattle.theory_lower.proofs.functions.RatFunction.whole.Goals as goal

pub returns-clause-fits : goal.returns-clause-fits
returns-clause-fits c = one_fits
