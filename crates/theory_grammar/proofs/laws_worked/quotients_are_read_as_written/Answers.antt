use Rattle.std.proofs.Common.{refl}
use Rattle.theory_grammar.proofs.FaultLaws.{read_is_spelled}
use Rattle.theory_grammar.proofs.LineLaws.{line_laws}
use Rattle.theory_grammar.proofs.laws_worked.quotients_are_read_as_written.Goals as goal

pub returns-clause-literal_over_number : goal.returns-clause-literal_over_number
returns-clause-literal_over_number c = read_is_spelled line_laws _ _ refl

pub returns-clause-name_over_numbers : goal.returns-clause-name_over_numbers
returns-clause-name_over_numbers c = read_is_spelled line_laws _ _ refl

pub returns-clause-literal_over_name : goal.returns-clause-literal_over_name
returns-clause-literal_over_name c = read_is_spelled line_laws _ _ refl

pub returns-clause-names : goal.returns-clause-names
returns-clause-names c = read_is_spelled line_laws _ _ refl

pub returns-clause-times_literal : goal.returns-clause-times_literal
returns-clause-times_literal c = read_is_spelled line_laws _ _ refl

pub returns-clause-product_over_name : goal.returns-clause-product_over_name
returns-clause-product_over_name c = read_is_spelled line_laws _ _ refl

pub returns-clause-quotient_times_literal : goal.returns-clause-quotient_times_literal
returns-clause-quotient_times_literal c = read_is_spelled line_laws _ _ refl

pub returns-clause-divisor_with_power : goal.returns-clause-divisor_with_power
returns-clause-divisor_with_power c = read_is_spelled line_laws _ _ refl

pub returns-clause-power_over_power : goal.returns-clause-power_over_power
returns-clause-power_over_power c = read_is_spelled line_laws _ _ refl

pub returns-clause-opposite_of_literal : goal.returns-clause-opposite_of_literal
returns-clause-opposite_of_literal c = read_is_spelled line_laws _ _ refl

pub returns-clause-opposite_over_name : goal.returns-clause-opposite_over_name
returns-clause-opposite_over_name c = read_is_spelled line_laws _ _ refl

pub returns-clause-divisor_in_brackets : goal.returns-clause-divisor_in_brackets
returns-clause-divisor_in_brackets c = read_is_spelled line_laws _ _ refl

pub returns-clause-number_in_brackets : goal.returns-clause-number_in_brackets
returns-clause-number_in_brackets c = read_is_spelled line_laws _ _ refl

pub returns-clause-over_zero : goal.returns-clause-over_zero
returns-clause-over_zero c = read_is_spelled line_laws _ _ refl

pub returns-clause-twice_over_zero : goal.returns-clause-twice_over_zero
returns-clause-twice_over_zero c = read_is_spelled line_laws _ _ refl
