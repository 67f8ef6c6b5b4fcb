use Rattle.theory_grammar.specs.Spelled.{IsLine}
use Rattle.theory_grammar.specs.Texts.{with_number}
use Rattle.theory_grammar.proofs.Outcomes.{lines_have_one_outcome}
use Rattle.theory_grammar.proofs.TextLaws.{one_text, one_text_fault, text_outcome, text_not_fail}
use Rattle.theory_grammar.proofs.laws_text.a_text_is_spelled_once_or_fails_once.Goals as goal

pub returns-clause-lines : goal.returns-clause-lines
returns-clause-lines c = one_text IsLine with_number lines_have_one_outcome

pub returns-clause-fault : goal.returns-clause-fault
returns-clause-fault c = one_text_fault IsLine lines_have_one_outcome

pub returns-clause-total : goal.returns-clause-total
returns-clause-total c = text_outcome IsLine with_number lines_have_one_outcome

pub returns-clause-never_both : goal.returns-clause-never_both
returns-clause-never_both c = text_not_fail IsLine with_number lines_have_one_outcome
