use Rattle.theory_lowering.proofs.SingleLowered.{form_single, lowered_single}
use Rattle.theory_lowering.proofs.laws.lowered_formulas_are_single.Goals as goal

pub returns-clause-form : goal.returns-clause-form
returns-clause-form c = form_single

pub returns-clause-formula : goal.returns-clause-formula
returns-clause-formula c = lowered_single
