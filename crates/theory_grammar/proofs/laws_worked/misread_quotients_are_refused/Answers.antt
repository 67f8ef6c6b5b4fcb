use Rattle.std.proofs.Common.{refl}
use Rattle.theory_grammar.proofs.FaultLaws.{fault_is_first}
use Rattle.theory_grammar.proofs.LineLaws.{line_laws}
use Rattle.theory_grammar.proofs.laws_worked.misread_quotients_are_refused.Goals as goal

pub returns-clause-power_of_literal : goal.returns-clause-power_of_literal
returns-clause-power_of_literal c = fault_is_first line_laws _ _ _ refl

pub returns-clause-over_minus : goal.returns-clause-over_minus
returns-clause-over_minus c = fault_is_first line_laws _ _ _ refl

pub returns-clause-literal_over_zero : goal.returns-clause-literal_over_zero
returns-clause-literal_over_zero c = fault_is_first line_laws _ _ _ refl

pub returns-clause-factor_over_zero : goal.returns-clause-factor_over_zero
returns-clause-factor_over_zero c = fault_is_first line_laws _ _ _ refl
