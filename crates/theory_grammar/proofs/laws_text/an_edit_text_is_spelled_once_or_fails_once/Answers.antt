use Rattle.theory_grammar.specs.Spelled.{IsOp}
use Rattle.theory_grammar.specs.Texts.{without_number}
use Rattle.theory_grammar.proofs.Outcomes.{ops_have_one_outcome}
use Rattle.theory_grammar.proofs.TextLaws.{one_text, one_text_fault, text_outcome, text_not_fail}
use Rattle.theory_grammar.proofs.laws_text.an_edit_text_is_spelled_once_or_fails_once.Goals as goal

pub returns-clause-edits : goal.returns-clause-edits
returns-clause-edits c = one_text IsOp without_number ops_have_one_outcome

pub returns-clause-fault : goal.returns-clause-fault
returns-clause-fault c = one_text_fault IsOp ops_have_one_outcome

pub returns-clause-total : goal.returns-clause-total
returns-clause-total c = text_outcome IsOp without_number ops_have_one_outcome

pub returns-clause-never_both : goal.returns-clause-never_both
returns-clause-never_both c = text_not_fail IsOp without_number ops_have_one_outcome
