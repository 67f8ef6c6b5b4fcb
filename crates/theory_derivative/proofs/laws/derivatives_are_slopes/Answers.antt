use Rattle.theory_derivative.proofs.SlopeLaws.{derivatives_are_slopes}
use Rattle.theory_derivative.proofs.laws.derivatives_are_slopes.Goals as goal

pub returns : goal.returns
returns c = derivatives_are_slopes
