use Rattle.theory_grammar.specs.Spelled.{IsLine}
use Rattle.theory_grammar.proofs.Outcomes.{lines_have_one_outcome}
use Rattle.theory_grammar.proofs.OneLineLaws.{one_line, one_line_first_fault, one_line_outcome, line_not_fail}
use Rattle.theory_grammar.proofs.laws_text.a_line_is_spelled_once_or_fails_once.Goals as goal

pub returns-clause-line : goal.returns-clause-line
returns-clause-line c = one_line IsLine lines_have_one_outcome

pub returns-clause-fault : goal.returns-clause-fault
returns-clause-fault c = one_line_first_fault IsLine lines_have_one_outcome

pub returns-clause-total : goal.returns-clause-total
returns-clause-total c = one_line_outcome IsLine lines_have_one_outcome

pub returns-clause-never_both : goal.returns-clause-never_both
returns-clause-never_both c = line_not_fail IsLine lines_have_one_outcome
