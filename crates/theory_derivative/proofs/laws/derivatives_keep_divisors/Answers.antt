use Rattle.theory_derivative.proofs.DivisorLaws.{derivatives_keep_divisors}
use Rattle.theory_derivative.proofs.laws.derivatives_keep_divisors.Goals as goal

pub returns : goal.returns
returns c = derivatives_keep_divisors
