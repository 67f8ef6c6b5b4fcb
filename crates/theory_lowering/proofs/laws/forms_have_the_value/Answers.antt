use Rattle.theory_lowering.proofs.FormValues.{form_bottom_nonzero, form_stands}
use Rattle.theory_lowering.proofs.laws.forms_have_the_value.Goals as goal

pub returns-clause-bottom : goal.returns-clause-bottom
returns-clause-bottom c ns e r p few l d is = form_bottom_nonzero ns p few e r l d is

pub returns-clause-value : goal.returns-clause-value
returns-clause-value c ns e r p few l d is = (form_stands ns p few e r l d is).value.is
